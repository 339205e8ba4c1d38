-- The canonical plan has a feasible word: so its routes run forward.
use Rattle.std.proofs.Common.{◌≡◌, ℕ, List, [], refl, sym, ap, subst, ◌∙◌, inl, inr, append-nil}
use Rattle.std.specs.List.{All}
use Rattle.std.proofs.lemmas.List.Elements.{All-contains, All-nil}
use Rattle.vrp_model.specs.Order.{IsEarlier, IsCanonical}
use Rattle.vrp_model.specs.Problem.{IsSymmetric, Problem}
use Rattle.vrp_model.specs.Route.{PricedPlan, plan_cost}
use Rattle.vrp_model.specs.Word.{IsLawfulWord, RunsForward, closed_routes, word_of}
use Rattle.vrp_model.proofs.Ordered.{earlier_total}
use Rattle.vrp_model.proofs.PlanWords.{closed_plan, plan_of_word}
use Rattle.vrp_model.proofs.TurnedRoutes.{word_for_plan}
use Rattle.vrp_model.proofs.Words.{closed_routes_are}
use Rattle.vrp_routes.specs.Useful.{IsUsefulIn}
use Rattle.vrp_routes.specs.declared.plan_range.PlanRange.{PlanRange}

-- the word of the canonical plan is feasible
pub canonical_has_word : (p : Problem) (plan : PricedPlan) → IsCanonical p plan → IsLawfulWord p (word_of plan.routes)
canonical_has_word p plan canonical =
    let (word, lawful, costs, not_later) = word_for_plan p plan.routes canonical.plan_of.lawful in
    let (others, is, also, rising, forward, price) = plan_of_word p word lawful in
    let other : PricedPlan = record { routes = others; cost = plan_cost p others } in
    let same : plan_cost p others ≡ plan.cost = price ∙ costs ∙ sym canonical.plan_of.priced in
    elim (earlier_total (word_of plan.routes) word) [
      | inl earlier ↦ absurd (not_later earlier)
      | inr (inl level) ↦ subst (IsLawfulWord p) (sym level) lawful
      | inr (inr later) ↦ absurd (canonical.none_before other (record { lawful = also; priced = refl }) (inr (same, subst (λ (xs : List ℕ). IsEarlier xs (word_of plan.routes)) is later)))
    ]

pub useful_runs_forward : (p : Problem) (range : PlanRange) (stops : List ℕ) → IsUsefulIn p range stops → IsSymmetric p → RunsForward stops
useful_runs_forward p range stops useful symmetric =
    let routes = useful.plan.routes in
    let word = canonical_has_word p useful.plan useful.canonical in
    let closed : closed_routes (word_of routes) ≡ routes = ap closed_routes (sym (append-nil (word_of routes))) ∙ closed_routes_are routes [] (closed_plan p routes useful.canonical.plan_of.lawful) (All-nil _) in
    All-contains RunsForward routes stops (subst (All RunsForward) closed (word.prefix.forward symmetric)) useful.among
