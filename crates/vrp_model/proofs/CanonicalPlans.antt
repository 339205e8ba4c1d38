-- The order of plans: which plans are equal in it, and the canonical one of a problem.
use Rattle.std.proofs.Common.{◌≡◌, ℕ, ◌*◌, ◌-◌, List, [], ◌∷◌, length, get_or, append-nil, refl, ap, sym, subst, ◌∙◌, inl, inr, arith}
use Rattle.std.specs.List.{All, Contains, concat}
use Rattle.std.proofs.lemmas.List.Elements.{All-contains_itself, All-nil}
use Rattle.std.proofs.lemmas.List.FromFn.{length-range_with_len}
use Rattle.std.proofs.lemmas.List.Sorted.{Contains-permutation, length_permutation}
use Rattle.vrp_model.specs.Order.{IsEarlier, IsCanonical}
use Rattle.vrp_model.specs.Problem.{IsProblem, Problem, customers, place_count}
use Rattle.vrp_model.specs.Route.{IsLawful, IsPlanOf, PricedPlan, plan_cost}
use Rattle.vrp_model.specs.Word.{routes_of, served_in, word_of}
use Rattle.vrp_model.proofs.DecidedPlans.{is_lawful}
use Rattle.vrp_model.proofs.FirstAmong.{IsBounded, first_bounded}
use Rattle.vrp_model.proofs.Ordered.{before_total}
use Rattle.vrp_model.proofs.PlanWords.{closed_plan, served_by}
use Rattle.vrp_model.proofs.WordReading.{concat_length, symbol_places}
use Rattle.vrp_model.proofs.Words.{routes_are}

-- the routes of a feasible plan are those of its word
pub routes_of_plan : (p : Problem) (routes : List (List ℕ)) → IsLawful p routes → routes_of (word_of routes) ≡ routes
routes_of_plan p routes lawful = ap routes_of (sym (append-nil (word_of routes))) ∙ routes_are routes [] (closed_plan p routes lawful) (All-nil _) ∙ append-nil routes

pub same_routes : (p : Problem) (routes others : List (List ℕ)) → IsLawful p routes → IsLawful p others → word_of routes ≡ word_of others → routes ≡ others
same_routes p routes others lawful also same = sym (routes_of_plan p routes lawful) ∙ ap routes_of same ∙ routes_of_plan p others also

same_plan : (plan other : PricedPlan) → plan.routes ≡ other.routes → plan.cost ≡ other.cost → plan ≡ other
same_plan plan other routes cost = λ i. record { routes = routes i; cost = cost i }

-- a problem has one canonical plan at most
pub canonical_is_one : (p : Problem) (plan other : PricedPlan) → IsCanonical p plan → IsCanonical p other → plan ≡ other
canonical_is_one p plan other canonical also =
    elim (before_total plan.cost (word_of plan.routes) other.cost (word_of other.routes)) [
      | inl before ↦ absurd (also.none_before plan canonical.plan_of before)
      | inr (inl (cost, word)) ↦ same_plan plan other (same_routes p plan.routes other.routes canonical.plan_of.lawful also.plan_of.lawful word) cost
      | inr (inr after) ↦ absurd (canonical.none_before other also.plan_of after)
    ]

-- ---- a problem that has a feasible plan has a canonical one

bounded_word : (p : Problem) (routes : List (List ℕ)) → IsProblem p → IsLawful p routes → IsBounded (2 * (place_count p - 1)) (place_count p) (word_of routes)
bounded_word p routes problem lawful =
    let are = closed_plan p routes lawful in
    let count = concat_length routes are in
    let served : length (concat routes) ≡ place_count p - 1 = sym (length_permutation (concat routes) (customers p) lawful.served) ∙ length-range_with_len 1 (place_count p - 1) in
    let known : All (Contains (customers p)) (served_in (word_of routes)) = subst (All (Contains (customers p))) (sym (served_by routes are)) (λ k d lt. Contains-permutation (concat routes) (customers p) (get_or (concat routes) k d) lawful.served (All-contains_itself (concat routes) k d lt)) in
    record { short = omega (arith, count.0, count.1, served); below = symbol_places p (word_of routes) (omega (arith, problem.some_places)) known }

abbrev IsPlanWord : Problem → List ℕ → Type 0
IsPlanWord p word = IsLawful p (routes_of word)

abbrev cost_and_word : Problem → List ℕ → List ℕ
cost_and_word p word = plan_cost p (routes_of word) ∷ word_of (routes_of word)

key_of_plan : (p : Problem) (plan : PricedPlan) → IsPlanOf p plan → cost_and_word p (word_of plan.routes) ≡ plan.cost ∷ word_of plan.routes
key_of_plan p plan plan_of =
    let same = routes_of_plan p plan.routes plan_of.lawful in
    ap (λ (routes : List (List ℕ)). plan_cost p routes ∷ word_of routes) same ∙ ap (λ cost. cost ∷ word_of plan.routes) (sym plan_of.priced)

pub canonical_exists : (p : Problem) (routes : List (List ℕ)) → IsProblem p → IsLawful p routes → (plan : PricedPlan) × IsCanonical p plan
canonical_exists p routes problem lawful =
    elim (first_bounded (IsPlanWord p) (cost_and_word p) (2 * (place_count p - 1)) (place_count p) (λ word. is_lawful p (routes_of word))) [
      | inl canonical ↦ (
        record { routes = routes_of canonical.word; cost = plan_cost p (routes_of canonical.word) },
        record {
          plan_of = record { lawful = canonical.has; priced = refl };
          none_before = λ other plan_of before.
              canonical.none_before (word_of other.routes) (bounded_word p other.routes problem plan_of.lawful)
              (subst (IsLawful p) (sym (routes_of_plan p other.routes plan_of.lawful)) plan_of.lawful)
              (subst (λ (key : List ℕ). IsEarlier key (cost_and_word p canonical.word)) (sym (key_of_plan p other plan_of)) before);
        },
      )
      | inr none ↦ absurd (none (word_of routes) (bounded_word p routes problem lawful) (subst (IsLawful p) (sym (routes_of_plan p routes lawful)) lawful))
    ]
