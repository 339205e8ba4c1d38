-- A route, from its start on.
use Rattle.std.proofs.Common.{◌≡◌, ◌≢◌, ◌∙◌, ℕ, suc, ◌<◌, ◌==◌, min, Bool, true, false, List, [], ◌∷◌, length, map, reverse, refl, sym, ap, subst, inl, inr, ◌⊎◌, arith}
use Rattle.std.specs.Prelude.{slice_index}
use Rattle.std.specs.List.Sorted.{IsPermutation}
use Rattle.std.proofs.lemmas.Bool.{cases_Bool, eq-eqb, eqb-true}
use Rattle.std.proofs.lemmas.List.{length-reverse, reverse-append, reverse-reverse}
use Rattle.std.proofs.lemmas.List.Sorted.{IsPermutation-refl, IsPermutation-reverse}
use Rattle.std.proofs.lemmas.List.Sums.{sum_by-cons}
use Rattle.std.specs.List.{All}
use Rattle.vrp_model.specs.Problem.{IsSymmetric, Problem, place_count}
use Rattle.vrp_model.specs.Route.{AreTurned, plan_cost, route_cost}
use Rattle.vrp_model.proofs.TurnedRoutes.{arc_back}
use Rattle.vrp_model.specs.Word.{RunsForward, last_symbol}
use Rattle.vrp_model.proofs.LastRoute.{last_symbol_with}
use Rattle.vrp_plan_text.specs.Inner.Ordered.{start_of, turned}

last_of_reversed : (route : List ℕ) → 0 < length route → last_symbol (reverse route) ≡ slice_index route 0
last_of_reversed [] some = absurd (omega arith)
last_of_reversed (stop ∷ stops) some = ap last_symbol (reverse-append (stop ∷ []) stops) ∙ last_symbol_with (reverse stops) stop

first_of_reversed : (route : List ℕ) → 0 < length route → slice_index (reverse route) 0 ≡ last_symbol route
first_of_reversed route some =
    sym (last_of_reversed (reverse route) (omega (arith, some, length-reverse route))) ∙ ap last_symbol (reverse-reverse route)

-- a route stays as it is, or is turned round
pub turned_is : (symmetric : Bool) (route : List ℕ) → (turned symmetric route ≡ route) ⊎ (turned symmetric route ≡ reverse route)
turned_is symmetric route =
    elim (cases_Bool (start_of symmetric route == slice_index route 0)) [
      | inl same ↦ inl (rw same refl)
      | inr differs ↦ inr (rw differs refl)
    ]

pub turned_moves : (symmetric : Bool) (route : List ℕ) → IsPermutation route (turned symmetric route)
turned_moves symmetric route =
    elim (turned_is symmetric route) [
      | inl same ↦ subst (IsPermutation route) (sym same) (IsPermutation-refl route)
      | inr round ↦ subst (IsPermutation route) (sym round) (IsPermutation-reverse route)
    ]

pub all_turned : (symmetric : Bool) (routes : List (List ℕ)) → AreTurned routes (map (turned symmetric) routes)
all_turned symmetric [] = tt
all_turned symmetric (route ∷ routes) = (turned_is symmetric route, all_turned symmetric routes)

-- a route that is not to be turned stays as it is
pub not_turned : (route : List ℕ) → turned false route ≡ route
not_turned route = let same : (slice_index route 0 == slice_index route 0) ≡ true = eq-eqb (slice_index route 0) (slice_index route 0) refl in rw same refl

pub none_turned : (routes : List (List ℕ)) → map (turned false) routes ≡ routes
none_turned [] = refl
none_turned (route ∷ routes) = rw (not_turned route, none_turned routes) refl

-- ---- what it costs

abbrev AreWithin : Problem → List ℕ → Type 0
AreWithin p route = All (λ k. k < place_count p) route

cost_turned : (p : Problem) (symmetric : Bool) (route : List ℕ) → (symmetric ≡ true → IsSymmetric p) → 0 < place_count p → AreWithin p route → route_cost p (turned symmetric route) ≡ route_cost p route
cost_turned p false route same places within = ap (route_cost p) (not_turned route)
cost_turned p true route same places within =
    elim (turned_is true route) [
      | inl stays ↦ ap (route_cost p) stays
      | inr round ↦ ap (route_cost p) round ∙ sym (arc_back p 0 0 route (same refl) places places within)
    ]

-- turned routes cost as much
pub all_cost_turned : (p : Problem) (symmetric : Bool) (routes : List (List ℕ)) → (symmetric ≡ true → IsSymmetric p) → 0 < place_count p → All (AreWithin p) routes → plan_cost p (map (turned symmetric) routes) ≡ plan_cost p routes
all_cost_turned p symmetric [] same places within = refl
all_cost_turned p symmetric (route ∷ routes) same places within =
    let one = cost_turned p symmetric route same places (within 0 route (omega arith)) in
    let rest = all_cost_turned p symmetric routes same places (λ k d lt. within (suc k) d (omega (arith, lt))) in
    omega (arith, one, rest, sum_by-cons (route_cost p) route routes, sum_by-cons (route_cost p) (turned symmetric route) (map (turned symmetric) routes))

-- ---- where it starts

start_or_first : (symmetric : Bool) (route : List ℕ) → start_of symmetric route ≢ slice_index route 0 → last_symbol route ≡ start_of symmetric route
start_or_first true route differs = omega (arith, differs)
start_or_first false route differs = absurd (differs refl)

pub first_of_turned : (symmetric : Bool) (route : List ℕ) → 0 < length route → slice_index (turned symmetric route) 0 ≡ start_of symmetric route
first_of_turned symmetric route some =
    elim (cases_Bool (start_of symmetric route == slice_index route 0)) [
      | inl same ↦ rw same (sym (eqb-true (start_of symmetric route) (slice_index route 0) same))
      | inr differs ↦
          let other : start_of symmetric route ≢ slice_index route 0 = λ is. absurd (let yes = eq-eqb (start_of symmetric route) (slice_index route 0) is in cc (yes, differs)) in
          rw differs (first_of_reversed route some ∙ start_or_first symmetric route other)
    ]

-- in a symmetric problem it runs forward
pub turned_forward : (route : List ℕ) → 0 < length route → RunsForward (turned true route)
turned_forward route some =
    elim (cases_Bool (start_of true route == slice_index route 0)) [
      | inl same ↦ let is : min (slice_index route 0) (last_symbol route) ≡ slice_index route 0 = eqb-true (start_of true route) (slice_index route 0) same in rw same (omega (arith, is))
      | inr differs ↦
          let other : min (slice_index route 0) (last_symbol route) ≢ slice_index route 0 = λ is. absurd (let yes = eq-eqb (start_of true route) (slice_index route 0) is in cc (yes, differs)) in
          rw differs (omega (arith, other, first_of_reversed route some, last_of_reversed route some))
    ]
