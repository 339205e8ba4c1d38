-- A plan beside an instance that it need not be of: whether its word serves each customer once, and what is known then of each
-- route.
use Rattle.std.proofs.Common.{◌≡◌, ℕ, zero, suc, ◌+◌, ◌-◌, ◌≤◌, ◌<◌, ◌==◌, Some, true, inl, inr, List, [], ◌∷◌, ◌++◌, length, length-append, get_or, take, sym, ap, subst, ◌∙◌, append-nil, arith}
use Rattle.std.specs.List.{All, Contains, concat, slice_get}
use Rattle.std.specs.List.Sorted.{IsPermutation}
use Rattle.std.proofs.lemmas.Bool.{cases_lt}
use Rattle.std.proofs.lemmas.Bool.Decides.{nat_tests}
use Rattle.std.proofs.lemmas.List.{nil_from_length}
use Rattle.std.proofs.lemmas.List.Elements.{All-contains_itself, Contains-append_cases, Contains-append_left, Contains-append_right}
use Rattle.std.proofs.lemmas.List.Folds.{list_any_at}
use Rattle.std.proofs.lemmas.List.FromFn.{get_or-range_with_len, length-range_with_len}
use Rattle.std.proofs.lemmas.List.Sorted.{Contains-permutation, IsPermutation-sym, length_permutation}
use Rattle.std.proofs.lemmas.List.Sums.{sum_by-take-le, sum_by_more}
use Rattle.std.proofs.lemmas.Option.{get_or_from_slice_get, slice_get_within}
use Rattle.vrp_model.specs.Problem.{Problem, customers, place_count}
use Rattle.vrp_model.specs.Route.{plan_cost, route_cost}
use Rattle.vrp_model.specs.Word.{stands_in, word_of}
use Rattle.vrp_model.proofs.CustomerPlaces.{customer_below}
use Rattle.vrp_model.proofs.DistinctLists.{behind_head, customers_distinct, in_tail}
use Rattle.vrp_model.proofs.DistinctWithin.{begins_among}
use Rattle.vrp_model.proofs.UnservedCustomers.{nat_same, stands_behind}

-- ---- the word of any routes

contains_standing : (word : List ℕ) (k : ℕ) → stands_in word k ≡ true → Contains word k
contains_standing [] k stands = absurd (cc)
contains_standing (symbol ∷ word) k stands = elim (nat_same symbol k) [
  | inl same ↦ (0, omega arith, same)
  | inr differs ↦ behind_head symbol k word (contains_standing word k (sym (stands_behind symbol k word differs) ∙ stands))
]

contained_stands : (word : List ℕ) (k : ℕ) → Contains word k → stands_in word k ≡ true
contained_stands word k (i, lt, is) = list_any_at (λ symbol. symbol == k) word i k lt (grind (arith, nat_tests, is))

stop_before_depot : (route : List ℕ) (k : ℕ) → 0 < k → Contains (route ++ 0 ∷ []) k → Contains route k
stop_before_depot route k some has = elim (Contains-append_cases route (0 ∷ []) k has) [
  | inl stop ↦ stop
  | inr depot ↦ absurd (let none = in_tail 0 k [] depot (λ same. absurd (omega (arith, some, same))) in omega (arith, none.1))
]

-- a customer that stands in it is a stop of a route
in_routes : (routes : List (List ℕ)) (k : ℕ) → 0 < k → Contains (word_of routes) k → Contains (concat routes) k
in_routes [] k some has = has
in_routes (route ∷ routes) k some has = elim (Contains-append_cases (route ++ 0 ∷ []) (word_of routes) k has) [
  | inl here ↦ Contains-append_left route (concat routes) k (stop_before_depot route k some here)
  | inr later ↦ Contains-append_right route (concat routes) k (in_routes routes k some later)
]

-- and each stop stands in it
in_word : (routes : List (List ℕ)) (k : ℕ) → Contains (concat routes) k → Contains (word_of routes) k
in_word [] k has = has
in_word (route ∷ routes) k has = elim (Contains-append_cases route (concat routes) k has) [
  | inl here ↦ Contains-append_left (route ++ 0 ∷ []) (word_of routes) k (Contains-append_left route (0 ∷ []) k here)
  | inr later ↦ Contains-append_right (route ++ 0 ∷ []) (word_of routes) k (in_word routes k later)
]

-- ---- each customer once

-- as many stops as customers, and each customer stands in the word
pub serves_each : (p : Problem) (routes : List (List ℕ)) → length (concat routes) + 1 ≡ place_count p → ((k : ℕ) → 0 < k → k < place_count p → stands_in (word_of routes) k ≡ true) → IsPermutation (concat routes) (customers p)
serves_each p routes many stand =
    let long : length (customers p) ≡ place_count p - 1 = length-range_with_len 1 (place_count p - 1) in
    let stops : All (Contains (concat routes)) (customers p) = (λ i d lt.
    let value : get_or (customers p) i d ≡ 1 + i = get_or-range_with_len 1 (place_count p - 1) i d (omega (arith, lt, long)) in
    let above : 0 < get_or (customers p) i d = omega (arith, value) in
    let below : get_or (customers p) i d < place_count p = omega (arith, value, lt, long) in
    in_routes routes (get_or (customers p) i d) above (contains_standing (word_of routes) (get_or (customers p) i d) (stand (get_or (customers p) i d) above below))) in
    let (others, moved) = begins_among (customers p) (concat routes) (customers_distinct p) stops in
    let none : length others ≡ 0 = omega (arith, many, long, length_permutation (concat routes) (customers p ++ others) moved, length-append (customers p) others) in
    subst (IsPermutation (concat routes)) (ap (λ (xs : List ℕ). customers p ++ xs) (nil_from_length others none) ∙ append-nil (customers p)) moved

pub as_many_stops : (p : Problem) (routes : List (List ℕ)) → IsPermutation (concat routes) (customers p) → length (concat routes) ≡ place_count p - 1
as_many_stops p routes served = sym (length_permutation (concat routes) (customers p) served) ∙ length-range_with_len 1 (place_count p - 1)

pub each_stands : (p : Problem) (routes : List (List ℕ)) (k : ℕ) → IsPermutation (concat routes) (customers p) → Contains (customers p) k → stands_in (word_of routes) k ≡ true
each_stands p routes k served known =
    contained_stands (word_of routes) k (in_word routes k (Contains-permutation (customers p) (concat routes) k (IsPermutation-sym (concat routes) (customers p) served) known))

-- ---- one of the routes

-- what holds of each route holds of one that stands there
pub at_route : (P : List ℕ → Type 0) (routes : List (List ℕ)) (i : ℕ) (route : List ℕ) → slice_get routes i ≡ Some route → All P routes → P route
at_route P routes i route is all = subst P (get_or_from_slice_get routes i route [] is) (all i [] (slice_get_within routes i route is))

-- what holds of the routes before one, and of it, holds of the routes up to it
pub up_to_route : (P : List ℕ → Type 0) (routes : List (List ℕ)) (i : ℕ) (route : List ℕ) → slice_get routes i ≡ Some route → ((k : ℕ) (d : List ℕ) → k < i → P (get_or routes k d)) → P route → (k : ℕ) (d : List ℕ) → k < i + 1 → P (get_or routes k d)
up_to_route P routes i route is before here k d lt = elim (cases_lt k i) [
  | inl earlier ↦ before k d earlier
  | inr last ↦ (
      let same : i ≡ k = omega (arith, lt, last) in
      let found : get_or routes k d ≡ route = ap (λ (n : ℕ). get_or routes n d) (sym same) ∙ get_or_from_slice_get routes i route d is in
      subst P (sym found) here)
]

-- it has no more stops than all together, and each of them is one of theirs
pub record IsPart (all route : List ℕ) : Type 0 where
  pub stops : All (Contains all) route
  pub few : length route ≤ length all

part_of_routes : (routes : List (List ℕ)) (i : ℕ) (d : List ℕ) → i < length routes → IsPart (concat routes) (get_or routes i d)
part_of_routes [] i d lt = absurd (omega (arith, lt))
part_of_routes (route ∷ routes) zero d lt = record {
  stops = λ j e within. Contains-append_left route (concat routes) (get_or route j e) (All-contains_itself route j e within);
  few = omega (arith, length-append route (concat routes));
}
part_of_routes (route ∷ routes) (suc i) d lt =
    let rest = part_of_routes routes i d (omega (arith, lt)) in
    record {
      stops = λ j e within. Contains-append_right route (concat routes) (get_or (get_or routes i d) j e) (rest.stops j e within);
      few = omega (arith, rest.few, length-append route (concat routes));
    }

-- each stop of a route is a place of the problem, and no route has more stops than the problem has places
pub record IsAmongPlaces (p : Problem) (route : List ℕ) : Type 0 where
  pub places : All (λ stop. stop < place_count p) route
  pub few : length route ≤ place_count p

pub route_among_places : (p : Problem) (routes : List (List ℕ)) (i : ℕ) (route : List ℕ) → IsPermutation (concat routes) (customers p) → slice_get routes i ≡ Some route → IsAmongPlaces p route
route_among_places p routes i route served is =
    let here : get_or routes i route ≡ route = get_or_from_slice_get routes i route route is in
    let part : IsPart (concat routes) route = subst (IsPart (concat routes)) here (part_of_routes routes i route (slice_get_within routes i route is)) in
    record {
      places = λ j e within. customer_below p (get_or route j e) (Contains-permutation (concat routes) (customers p) (get_or route j e) served (part.stops j e within));
      few = omega (arith, part.few, as_many_stops p routes served);
    }

-- ---- what the routes cost

-- one more route
pub cost_more : (p : Problem) (routes : List (List ℕ)) (i : ℕ) (route : List ℕ) → slice_get routes i ≡ Some route → plan_cost p (take (i + 1) routes) ≡ plan_cost p (take i routes) + route_cost p route
cost_more p routes i route is =
    let here : route_cost p (get_or routes i route) ≡ route_cost p route = ap (route_cost p) (get_or_from_slice_get routes i route route is) in
    omega (arith, here, sum_by_more (route_cost p) routes i route (slice_get_within routes i route is))

-- the first routes cost no more than all
pub cost_of_canonical : (p : Problem) (routes : List (List ℕ)) (i : ℕ) → plan_cost p (take i routes) ≤ plan_cost p routes
cost_of_canonical p routes i = sum_by-take-le (route_cost p) routes i
