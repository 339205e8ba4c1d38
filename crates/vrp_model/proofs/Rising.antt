-- The routes of a feasible plan, put in the order of their first customers.
use Rattle.std.proofs.Common.{◌≡◌, ◌≢◌, ℕ, zero, suc, ◌+◌, ◌≤◌, ◌<◌, cond, nat_lt, List, [], ◌∷◌, ◌++◌, length, length-append, get_or, refl, sym, subst, ◌∙◌, inl, inr, append_assoc, arith}
use Rattle.std.specs.List.{All, Contains, concat}
use Rattle.std.specs.List.Sorted.{IsPermutation, IsStrictlyIncreasing}
use Rattle.std.specs.Prelude.{slice_index}
use Rattle.std.proofs.Math.ListN.{get_or-append}
use Rattle.std.proofs.lemmas.Bool.{cases_Bool}
use Rattle.std.proofs.lemmas.Bool.Decides.{nat_tests}
use Rattle.std.proofs.lemmas.List.{get_or-append-add, get_or_default}
use Rattle.std.proofs.lemmas.List.Elements.{All-cons, All-nil, Contains-append_left, Contains-append_right}
use Rattle.std.proofs.lemmas.List.Sorted.{All-permutation, IsPermutation-append_comm, IsPermutation-append_left, IsPermutation-append_right, IsPermutation-cons, IsPermutation-middle, IsPermutation-refl, IsPermutation-sym, IsPermutation-trans, length_permutation, sum_by-IsPermutation}
use Rattle.vrp_model.specs.Problem.{HasTrucks, Problem, customers}
use Rattle.vrp_model.specs.Route.{IsLawful, load_of, plan_cost, route_cost}
use Rattle.vrp_model.specs.Word.{first_stops, word_of}
use Rattle.vrp_model.proofs.Ordered.{IsNoLater, begins_lower, no_later_behind, no_later_transitive}
use Rattle.vrp_model.proofs.PlanWords.{has_length}
use Rattle.vrp_model.proofs.DistinctLists.{AreDistinct, AreDistinct-permutation, customers_distinct}

abbrev first_stop : List ℕ → ℕ
first_stop route = slice_index route 0

-- a route in its place among rising ones
abbrev insert_route : List ℕ → List (List ℕ) → List (List ℕ)
insert_route route [] = route ∷ []
insert_route route (next ∷ routes) = cond (nat_lt (first_stop route) (first_stop next)) (route ∷ next ∷ routes) (next ∷ insert_route route routes)

abbrev sort_routes : List (List ℕ) → List (List ℕ)
sort_routes [] = []
sort_routes (route ∷ routes) = insert_route route (sort_routes routes)

insert_moves : (route : List ℕ) (routes : List (List ℕ)) → IsPermutation (route ∷ routes) (insert_route route routes)
insert_moves route [] = IsPermutation-refl (route ∷ [])
insert_moves route (next ∷ routes) =
    elim (cases_Bool (nat_lt (first_stop route) (first_stop next))) [
      | inl below ↦ rw below (IsPermutation-refl (route ∷ next ∷ routes))
      | inr above ↦ rw above (IsPermutation-trans (route ∷ next ∷ routes) (next ∷ route ∷ routes) (next ∷ insert_route route routes) (IsPermutation-middle (route ∷ []) next routes) (IsPermutation-cons next (route ∷ routes) (insert_route route routes) (insert_moves route routes)))
    ]

sort_moves : (routes : List (List ℕ)) → IsPermutation routes (sort_routes routes)
sort_moves [] = IsPermutation-refl []
sort_moves (route ∷ routes) =
    IsPermutation-trans (route ∷ routes) (route ∷ sort_routes routes) (insert_route route (sort_routes routes)) (IsPermutation-cons route routes (sort_routes routes) (sort_moves routes)) (insert_moves route (sort_routes routes))

swap_prefixes : (xs ys zs : List ℕ) → IsPermutation (xs ++ (ys ++ zs)) (ys ++ (xs ++ zs))
swap_prefixes xs ys zs =
    subst (λ (l : List ℕ). IsPermutation l (ys ++ (xs ++ zs))) (append_assoc xs ys zs)
    (subst (λ (l : List ℕ). IsPermutation ((xs ++ ys) ++ zs) l) (append_assoc ys xs zs) (IsPermutation-append_left zs (xs ++ ys) (ys ++ xs) (IsPermutation-append_comm xs ys)))

insert_moves_stops : (route : List ℕ) (routes : List (List ℕ)) → IsPermutation (route ++ concat routes) (concat (insert_route route routes))
insert_moves_stops route [] = IsPermutation-refl (route ++ [])
insert_moves_stops route (next ∷ routes) =
    elim (cases_Bool (nat_lt (first_stop route) (first_stop next))) [
      | inl below ↦ rw below (IsPermutation-refl (route ++ (next ++ concat routes)))
      | inr above ↦ rw above (IsPermutation-trans (route ++ (next ++ concat routes)) (next ++ (route ++ concat routes)) (next ++ concat (insert_route route routes)) (swap_prefixes route next (concat routes)) (IsPermutation-append_right next (route ++ concat routes) (concat (insert_route route routes)) (insert_moves_stops route routes)))
    ]

sort_moves_stops : (routes : List (List ℕ)) → IsPermutation (concat routes) (concat (sort_routes routes))
sort_moves_stops [] = IsPermutation-refl []
sort_moves_stops (route ∷ routes) =
    IsPermutation-trans (route ++ concat routes) (route ++ concat (sort_routes routes)) (concat (insert_route route (sort_routes routes)))
    (IsPermutation-append_right route (concat routes) (concat (sort_routes routes)) (sort_moves_stops routes))
    (insert_moves_stops route (sort_routes routes))

-- each route begins below all later ones
abbrev Rises : List (List ℕ) → Type 0
Rises [] = Unit {0}
Rises (route ∷ routes) = All (λ r. first_stop route < first_stop r) routes × Rises routes

abbrev DifferInFirsts : List (List ℕ) → Type 0
DifferInFirsts [] = Unit {0}
DifferInFirsts (route ∷ routes) = All (λ r. first_stop route ≢ first_stop r) routes × DifferInFirsts routes

all_above : (low high : ℕ) (routes : List (List ℕ)) → low < high → All (λ r. high < first_stop r) routes → All (λ r. low < first_stop r) routes
all_above low high routes lt above = λ k d within. omega (arith, lt, above k d within)

insert_rises : (route : List ℕ) (routes : List (List ℕ)) → Rises routes → All (λ r. first_stop route ≢ first_stop r) routes → Rises (insert_route route routes)
insert_rises route [] rises differ = (All-nil (λ r. first_stop route < first_stop r), tt)
insert_rises route (next ∷ routes) rises differ =
    elim (cases_Bool (nat_lt (first_stop route) (first_stop next))) [
      | inl below ↦
          let lt : first_stop route < first_stop next = grind (arith, nat_tests, below) in
          rw below (All-cons (λ r. first_stop route < first_stop r) next routes lt (all_above (first_stop route) (first_stop next) routes lt rises.0), rises)
      | inr above ↦
          let other : first_stop route ≢ first_stop next = differ 0 next (omega arith) in
          let lt : first_stop next < first_stop route = grind (arith, nat_tests, above, other) in
          rw above (
            All-permutation (λ r. first_stop next < first_stop r) (route ∷ routes) (insert_route route routes) (insert_moves route routes) (All-cons (λ r. first_stop next < first_stop r) route routes lt rises.0),
            insert_rises route routes rises.1 (λ k d within. differ (suc k) d (omega (arith, within))),
          )
    ]

sort_rises : (routes : List (List ℕ)) → DifferInFirsts routes → Rises (sort_routes routes)
sort_rises [] differ = tt
sort_rises (route ∷ routes) differ =
    insert_rises route (sort_routes routes) (sort_rises routes differ.1) (All-permutation (λ r. first_stop route ≢ first_stop r) routes (sort_routes routes) (sort_moves routes) differ.0)

rising_firsts : (routes : List (List ℕ)) → Rises routes → IsStrictlyIncreasing (first_stops routes)
rising_firsts [] rises k lt = absurd (omega (arith, lt))
rising_firsts (route ∷ []) rises k lt = absurd (omega (arith, lt))
rising_firsts (route ∷ next ∷ routes) rises zero lt = rises.0 0 next (omega arith)
rising_firsts (route ∷ next ∷ routes) rises (suc k) lt =
    let e : suc k + 1 ≡ suc (k + 1) = omega arith in
    rw e (rising_firsts (next ∷ routes) rises.1 k (omega (arith, lt)))

-- the parts of a list in which nothing stands twice have nothing in common
apart : (xs ys : List ℕ) (x y : ℕ) → AreDistinct (xs ++ ys) → Contains xs x → Contains ys y → x ≢ y
apart xs ys x y distinct (i, lt, is) (j, within, at) =
    λ same.
    let left : get_or (xs ++ ys) i y ≡ x = get_or-append xs ys y i lt ∙ get_or_default xs i y x lt ∙ is in
    let right : get_or (xs ++ ys) (length xs + j) y ≡ y = get_or-append-add xs ys j y ∙ at in
    distinct i (length xs + j) y (omega (arith, lt)) (omega (arith, within, length-append xs ys)) (left ∙ same ∙ sym right)

right_distinct : (xs ys : List ℕ) → AreDistinct (xs ++ ys) → AreDistinct ys
right_distinct xs ys distinct = λ i j d lt within same.
    distinct (length xs + i) (length xs + j) d (omega (arith, lt)) (omega (arith, within, length-append xs ys)) (get_or-append-add xs ys i d ∙ same ∙ sym (get_or-append-add xs ys j d))

first_inside : (route : List ℕ) → route ≢ [] → Contains route (first_stop route)
first_inside [] differs = absurd (differs refl)
first_inside (stop ∷ route) differs = (0, omega arith, refl)

firsts_inside : (routes : List (List ℕ)) → All (λ r. r ≢ []) routes → All (λ r. Contains (concat routes) (first_stop r)) routes
firsts_inside [] some = All-nil (λ r. Contains [] (first_stop r))
firsts_inside (route ∷ routes) some =
    let rest = firsts_inside routes (λ k d lt. some (suc k) d (omega (arith, lt))) in
    All-cons (λ r. Contains (route ++ concat routes) (first_stop r)) route routes
    (Contains-append_left route (concat routes) (first_stop route) (first_inside route (some 0 route (omega arith))))
    (λ k d lt. Contains-append_right route (concat routes) (first_stop (get_or routes k d)) (rest k d lt))

distinct_firsts : (routes : List (List ℕ)) → AreDistinct (concat routes) → All (λ r. r ≢ []) routes → DifferInFirsts routes
distinct_firsts [] distinct some = tt
distinct_firsts (route ∷ routes) distinct some =
    let later : All (λ r. r ≢ []) routes = λ k d lt. some (suc k) d (omega (arith, lt)) in
    let inside = firsts_inside routes later in (
      λ k d lt. apart route (concat routes) (first_stop route) (first_stop (get_or routes k d)) distinct (first_inside route (some 0 route (omega arith))) (inside k d lt),
      distinct_firsts routes (right_distinct route (concat routes) distinct) later,
    )

pub rising_plan : (p : Problem) (routes : List (List ℕ)) → IsLawful p routes
    → (others : List (List ℕ)) × IsPermutation routes others × IsLawful p others × IsStrictlyIncreasing (first_stops others) × (plan_cost p others ≡ plan_cost p routes)
rising_plan p routes lawful =
    let distinct : AreDistinct (concat routes) = AreDistinct-permutation (customers p) (concat routes) (IsPermutation-sym (concat routes) (customers p) lawful.served) (customers_distinct p) in
    let moved = sort_moves routes in (
      sort_routes routes,
      moved,
      record {
        served = IsPermutation-trans (concat (sort_routes routes)) (concat routes) (customers p) (IsPermutation-sym (concat routes) (concat (sort_routes routes)) (sort_moves_stops routes)) lawful.served;
        stops = All-permutation (λ r. r ≢ []) routes (sort_routes routes) moved lawful.stops;
        fits = All-permutation (λ r. load_of p r ≤ p.capacity) routes (sort_routes routes) moved lawful.fits;
        few = subst (λ n. HasTrucks p n) (sym (length_permutation routes (sort_routes routes) moved)) lawful.few;
      },
      rising_firsts (sort_routes routes) (sort_rises routes (distinct_firsts routes distinct lawful.stops)),
      sum_by-IsPermutation (route_cost p) routes (sort_routes routes) moved,
    )

-- ---- the word of the routes in order is no later

insert_no_later : (route : List ℕ) (routes : List (List ℕ)) → 0 < length route → All (λ r. r ≢ []) routes → All (λ r. first_stop route ≢ first_stop r) routes
    → IsNoLater (word_of (insert_route route routes)) (word_of (route ∷ routes))
insert_no_later route [] long some differ = inl refl
insert_no_later route (next ∷ routes) long some differ =
    elim (cases_Bool (nat_lt (first_stop route) (first_stop next))) [
      | inl below ↦ rw below (inl refl)
      | inr above ↦
          let other : first_stop route ≢ first_stop next = differ 0 next (omega arith) in
          let lt : first_stop next < first_stop route = grind (arith, nat_tests, above, other) in
          rw above (inr (begins_lower next route (insert_route route routes) (next ∷ routes) (has_length next (some 0 next (omega arith))) long lt))
    ]

sort_no_later : (routes : List (List ℕ)) → All (λ r. r ≢ []) routes → DifferInFirsts routes → IsNoLater (word_of (sort_routes routes)) (word_of routes)
sort_no_later [] some differ = inl refl
sort_no_later (route ∷ routes) some differ =
    let later : All (λ r. r ≢ []) routes = λ k d lt. some (suc k) d (omega (arith, lt)) in
    let moved = sort_moves routes in
    let rest = no_later_behind (route ++ 0 ∷ []) (word_of (sort_routes routes)) (word_of routes) (sort_no_later routes later differ.1) in
    let first = insert_no_later route (sort_routes routes) (has_length route (some 0 route (omega arith))) (All-permutation (λ r. r ≢ []) routes (sort_routes routes) moved later) (All-permutation (λ r. first_stop route ≢ first_stop r) routes (sort_routes routes) moved differ.0) in
    no_later_transitive (word_of (insert_route route (sort_routes routes))) (word_of (route ∷ sort_routes routes)) (word_of (route ∷ routes)) first rest

pub rising_no_later : (p : Problem) (routes : List (List ℕ)) (lawful : IsLawful p routes) → IsNoLater (word_of (rising_plan p routes lawful).0) (word_of routes)
unfolding rising_plan
rising_no_later p routes lawful =
    let distinct : AreDistinct (concat routes) = AreDistinct-permutation (customers p) (concat routes) (IsPermutation-sym (concat routes) (customers p) lawful.served) (customers_distinct p) in
    sort_no_later routes lawful.stops (distinct_firsts routes distinct lawful.stops)
