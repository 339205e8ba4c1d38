-- What is answered of a text, from what its lines list.
use Rattle.std.proofs.Common.{◌≡◌, ◌≢◌, ◌∙◌, ◌↔◌, ℕ, pos, zero, suc, ◌<◌, ◌==◌, not, Bool, true, IsTrue, Option, Some, None, Ok, List, [], ◌∷◌, length, get_or, map, refl, sym, ap, subst, inl, inr, arith}
use Rattle.std.specs.Option.{option_and_then}
use Rattle.std.specs.Prelude.{filter}
use Rattle.std.specs.List.{All, Contains, slice_get}
use Rattle.std.specs.List.Sorted.{IsPermutation}
use Rattle.std.proofs.lemmas.Bool.{cases_Bool}
use Rattle.std.proofs.lemmas.Bool.Decides.{nat_tests}
use Rattle.std.proofs.lemmas.List.{get_or-map, length-map}
use Rattle.std.proofs.lemmas.List.Elements.{filter_passes}
use Rattle.std.proofs.lemmas.Option.{get_or_from_slice_get, slice_get_within}
use Rattle.vrp_model.specs.Problem.{Problem}
use Rattle.vrp_model.specs.Route.{IsPlanOf, PricedPlan, plan_cost}
use Rattle.vrp_model.proofs.DistinctLists.{behind_head}
use Rattle.vrp_plan_text.specs.Line.{Cost, Line, Number, lines_of}
use Rattle.vrp_plan_text.specs.Solution.{AreCustomers, GivenRoute, GivesPlan, StatesOtherCost, is_cost, stated_cost, stops_of, whole_cost}
use Rattle.vrp_plan_text.specs.Inner.Listing.{Keeps, cost_lines, given_route, given_routes, kept_cost}
use Rattle.vrp_plan_text.specs.Inner.Ordered.{AreRoutesOf}
use Rattle.vrp_plan_text.specs.Inner.Read.{number_stated}
use Rattle.vrp_plan_text.specs.declared.reading.line.StatedCost.{StatedCost}
use Rattle.vrp_plan_text.specs.declared.reading.line.StatedCost.TheVariants.{Whole, Fraction}
use Rattle.vrp_plan_text.specs.declared.reading.listing.ListedPlan.{ListedPlan}
use Rattle.vrp_plan_text.specs.declared.reading.route.NonemptyRoute.{NonemptyRoute}
use Rattle.vrp_plan_text.proofs.ListingLemmas.{kept_stands, lists_kept}
use Rattle.vrp_plan_text.proofs.RouteLists.{map_twice}

-- ---- the routes

-- of what is made of elements, and so of these
all_made : {A B : Type 0} (P : B → Type 0) (f : A → B) (xs : List A) → All P (map f xs) → All (λ x. P (f x)) xs
all_made P f xs all = λ k d within. subst P (get_or-map f xs k d (f d) within) (all k (f d) (omega (arith, within, length-map xs f)))

-- all stops are customers
pub customers_kept : (p : Problem) (lines : List Line) (listing : ListedPlan) → Keeps p lines listing → All (λ (r : NonemptyRoute). AreCustomers p r.stops.items) listing.routes.items
customers_kept p lines listing keeps = all_made (λ (r : GivenRoute). AreCustomers p r.stops) given_route listing.routes.items keeps.customers

has_stops : (route : GivenRoute) → not (length route.stops == 0) ≡ true → 0 < length route.stops
has_stops route passes = grind (arith, nat_tests)

-- each route has stops
pub stops_kept : (p : Problem) (lines : List Line) (listing : ListedPlan) → Keeps p lines listing → All (λ (r : NonemptyRoute). 0 < length r.stops.items) listing.routes.items
stops_kept p lines listing keeps =
    let passing : All (λ (r : GivenRoute). not (length r.stops == 0) ≡ true) (given_routes listing.routes.items) = subst (All (λ (r : GivenRoute). not (length r.stops == 0) ≡ true)) (sym keeps.kept) (filter_passes (λ (r : GivenRoute). not (length r.stops == 0)) keeps.given) in
    all_made (λ (r : GivenRoute). 0 < length r.stops) given_route listing.routes.items (λ k d within. has_stops (get_or (given_routes listing.routes.items) k d) (passing k d within))

pub stops_are : (routes : List NonemptyRoute) → stops_of (given_routes routes) ≡ map (λ (r : NonemptyRoute). r.stops.items) routes
stops_are routes = map_twice given_route (λ (r : GivenRoute). r.stops) routes

-- the plan that the text gives
pub gives_plan : (p : Problem) (text : List ℕ) (listing : ListedPlan) (plan : PricedPlan) → Keeps p (lines_of text) listing → AreRoutesOf p (map (λ (r : NonemptyRoute). r.stops.items) listing.routes.items) plan.routes → IsPlanOf p plan → GivesPlan p text plan
gives_plan p text listing plan keeps are plan_of = record {
  routes = given_routes listing.routes.items;
  listed = lists_kept p (lines_of text) listing keeps;
  ordered = are.ordered;
  same = subst (λ (l : List (List ℕ)). IsPermutation l are.ordered) (sym (stops_are listing.routes.items)) are.same;
  turned = are.turned;
  as_listed = are.as_listed;
  cost = plan_of.priced ∙ are.cost ∙ ap (plan_cost p) (sym (stops_are listing.routes.items));
  plan_of = plan_of;
}

-- ---- the cost

still_among : (p : Line → Bool) (lines : List Line) (line : Line) → p line ≡ true → Contains lines line → Contains (filter p lines) line
still_among p [] line passes (k, within, is) = absurd (omega (arith, within))
still_among p (x ∷ lines) line passes (zero, within, is) = let here : p x ≡ true = ap p is ∙ passes in rw here (0, omega arith, is)
still_among p (x ∷ lines) line passes (suc k, within, is) =
    let rest = still_among p lines line passes (k, omega (arith, within), is) in
    elim (cases_Bool (p x)) [
      | inl here ↦ rw here (behind_head x line (filter p lines) rest)
      | inr gone ↦ rw gone rest
    ]

-- what is stated is what is kept
stated_is : (cost : Option StatedCost) (stated : Number) → Contains (cost_lines cost) (Cost stated) → (kept : StatedCost) × (cost ≡ Some kept) × (number_stated kept ≡ stated)
stated_is None stated (k, within, is) = absurd (omega (arith, within))
stated_is (Some kept) stated (zero, within, is) = (kept, refl, cc)
stated_is (Some kept) stated (suc k, within, is) = absurd (omega (arith, within))

-- whether another cost is stated
pub states_other : (p : Problem) (text : List ℕ) (listing : ListedPlan) (cost true_cost : ℕ) (tells : Bool) → Keeps p (lines_of text) listing → cost ≡ true_cost
    → (IsTrue tells ↔ ((stated : StatedCost) × (listing.cost ≡ Some stated) × (number_stated stated ≢ Ok (pos cost)))) → (IsTrue tells ↔ StatesOtherCost text true_cost)
states_other p text listing cost true_cost tells keeps same answer = (
  λ is.
      let told = answer.0 is in
      let line = Cost (number_stated told.0) in
      let there = kept_stands is_cost (lines_of text) [] line (keeps.costs ∙ ap cost_lines told.1) in
      (number_stated told.0, (there.0, slice_get_within (lines_of text) there.0 line there.1, get_or_from_slice_get (lines_of text) there.0 line line there.1), λ equal. told.2 (equal ∙ ap (λ n. Ok (pos n)) (sym same))),
  λ states.
      let among = subst (λ (l : List Line). Contains l (Cost states.0)) keeps.costs (still_among is_cost (lines_of text) (Cost states.0) refl states.1) in
      let kept = stated_is listing.cost states.0 among in
      answer.1 (kept.0, kept.1, λ equal. states.2 (sym kept.2 ∙ equal ∙ ap (λ n. Ok (pos n)) same)),
)

-- the cost that is kept is the one that is stated
kept_first : (cost : Option StatedCost) → kept_cost cost ≡ option_and_then whole_cost (slice_get (cost_lines cost) 0)
kept_first None = refl
kept_first (Some (Whole cost)) = refl
kept_first (Some Fraction) = refl

pub kept_is_stated : (p : Problem) (text : List ℕ) (listing : ListedPlan) → Keeps p (lines_of text) listing → kept_cost listing.cost ≡ stated_cost text
kept_is_stated p text listing keeps = kept_first listing.cost ∙ ap (λ (l : List Line). option_and_then whole_cost (slice_get l 0)) (sym keeps.costs)
