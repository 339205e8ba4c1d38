-- The routes of a feasible plan, turned round where they would run backward, and the feasible word that each feasible plan has.
use Rattle.std.proofs.Common.{◌≡◌, ◌≢◌, ℕ, suc, ◌≤◌, ◌<◌, ◌==◌, cond, nat_lt, List, [], ◌∷◌, ◌++◌, length, get_or, reverse, map, refl, sym, ap, subst, ◌∙◌, inl, inr, ◌⊎◌, arith}
use Rattle.std.specs.List.{All, concat}
use Rattle.std.specs.List.Sorted.{IsPermutation}
use Rattle.std.specs.Prelude.{slice_index}
use Rattle.std.proofs.lemmas.Bool.{cases_Bool}
use Rattle.std.proofs.lemmas.Bool.Decides.{nat_tests}
use Rattle.std.proofs.lemmas.List.{length-map, length-reverse, reverse-append, reverse-reverse}
use Rattle.std.proofs.lemmas.List.Elements.{All-cons, All-contains_itself, All-nil}
use Rattle.std.proofs.lemmas.List.Sorted.{All-permutation, Contains-permutation, IsPermutation-append_left, IsPermutation-append_right, IsPermutation-refl, IsPermutation-reverse, IsPermutation-sym, IsPermutation-trans, sum_by-IsPermutation}
use Rattle.std.proofs.lemmas.List.Sums.{sum_by-cons}
use Rattle.vrp_model.specs.Order.{IsEarlier}
use Rattle.vrp_model.specs.Problem.{HasTrucks, IsSymmetric, Problem, customers, demand_of, place_count, weight_of}
use Rattle.vrp_model.specs.Route.{AreTurned, IsLawful, cost_along, load_of, plan_cost, route_cost}
use Rattle.vrp_model.specs.Word.{IsLawfulWord, RunsForward, last_symbol, word_cost, word_of}
use Rattle.vrp_model.proofs.CustomerPlaces.{customer_below}
use Rattle.vrp_model.proofs.LastRoute.{last_symbol_with}
use Rattle.vrp_model.proofs.Ordered.{IsNoLater, begins_lower, no_later_behind, no_later_transitive, not_earlier}
use Rattle.vrp_model.proofs.PlanWords.{cost_parts, has_length, word_of_plan}
use Rattle.vrp_model.proofs.Rising.{rising_no_later, rising_plan}
use Rattle.vrp_model.proofs.WordReading.{all_left, all_right}
use Rattle.vrp_model.proofs.Words.{last_behind, last_behind-append}

-- ---- what a route costs the other way round

reversed_with : (stop : ℕ) (stops : List ℕ) → reverse (stop ∷ stops) ≡ reverse stops ++ stop ∷ []
reversed_with stop stops = reverse-append (stop ∷ []) stops

-- from one place through stops to another costs as much as back, where each arc does
pub arc_back : (p : Problem) (from to : ℕ) (stops : List ℕ) → IsSymmetric p → from < place_count p → to < place_count p → All (λ k. k < place_count p) stops
    → cost_along p from (stops ++ to ∷ []) ≡ cost_along p to (reverse stops ++ from ∷ [])
arc_back p from to [] symmetric here there within = omega (arith, symmetric from to here there)
arc_back p from to (stop ∷ stops) symmetric here there within =
    let next : stop < place_count p = within 0 stop (omega arith) in
    let rest = arc_back p stop to stops symmetric next there (λ k d lt. within (suc k) d (omega (arith, lt))) in
    let parts = cost_parts p to (reverse stops ++ stop ∷ []) (from ∷ []) in
    let last : last_behind to (reverse stops ++ stop ∷ []) ≡ stop = last_behind-append to (reverse stops) (stop ∷ []) in
    let final : cost_along p (last_behind to (reverse stops ++ stop ∷ [])) (from ∷ []) ≡ weight_of p stop from = ap (λ k. cost_along p k (from ∷ [])) last ∙ (omega arith) in
    let whole : cost_along p to (reverse (stop ∷ stops) ++ from ∷ []) ≡ cost_along p to ((reverse stops ++ stop ∷ []) ++ from ∷ []) = ap (λ (xs : List ℕ). cost_along p to (xs ++ from ∷ [])) (reversed_with stop stops) in
    omega (arith, rest, parts, final, whole, symmetric from stop here next)

-- ---- one route

-- a route that would run backward is turned round, where that costs the same
abbrev turn : Problem → List ℕ → List ℕ
turn p route = cond (nat_lt (last_symbol route) (slice_index route 0)) (cond (route_cost p (reverse route) == route_cost p route) (reverse route) route) route

last_of_reversed : (route : List ℕ) → 0 < length route → last_symbol (reverse route) ≡ slice_index route 0
last_of_reversed [] some = absurd (omega arith)
last_of_reversed (stop ∷ stops) some = ap last_symbol (reversed_with stop stops) ∙ last_symbol_with (reverse stops) stop

first_of_reversed : (route : List ℕ) → 0 < length route → slice_index (reverse route) 0 ≡ last_symbol route
first_of_reversed route some =
    sym (last_of_reversed (reverse route) (omega (arith, some, length-reverse route))) ∙ ap last_symbol (reverse-reverse route)

-- what a turned route has in common with the route
record Turned (p : Problem) (route other : List ℕ) : Type 0 where
  pub is : (other ≡ route) ⊎ (other ≡ reverse route)
  pub moved : IsPermutation route other
  pub priced : route_cost p other ≡ route_cost p route
  pub some : 0 < length other
  pub forward : IsSymmetric p → RunsForward other
  pub begins : (other ≡ route) ⊎ (slice_index other 0 < slice_index route 0)

stays : (p : Problem) (route : List ℕ) → 0 < length route → (IsSymmetric p → RunsForward route) → Turned p route route
stays p route some forward = record { is = inl refl; moved = IsPermutation-refl route; priced = refl; some = some; forward = forward; begins = inl refl }

goes_back : (p : Problem) (route : List ℕ) → 0 < length route → last_symbol route < slice_index route 0 → route_cost p (reverse route) ≡ route_cost p route → Turned p route (reverse route)
goes_back p route some backward same = record {
  is = inr refl;
  moved = IsPermutation-reverse route;
  priced = same;
  some = omega (arith, some, length-reverse route);
  forward = λ symmetric. omega (arith, backward, first_of_reversed route some, last_of_reversed route some);
  begins = inr (omega (arith, backward, first_of_reversed route some));
}

turned_one : (p : Problem) (route : List ℕ) → 0 < length route → 0 < place_count p → All (λ k. k < place_count p) route → Turned p route (turn p route)
turned_one p route some places within =
    elim (cases_Bool (nat_lt (last_symbol route) (slice_index route 0))) [
      | inr forward ↦ rw forward (stays p route some (λ symmetric. grind (arith, nat_tests, forward)))
      | inl backward ↦
          let lt : last_symbol route < slice_index route 0 = grind (arith, nat_tests, backward) in
          elim (cases_Bool (route_cost p (reverse route) == route_cost p route)) [
            | inl same ↦ rw (backward, same) (goes_back p route some lt (grind (arith, nat_tests, same)))
            | inr differs ↦ rw (backward, differs) (stays p route some (λ symmetric.
                absurd (let both = arc_back p 0 0 route symmetric places places within in
                let other : route_cost p (reverse route) ≢ route_cost p route = grind (arith, nat_tests, differs) in other (sym both))))
          ]
    ]

-- ---- all routes

record AllTurned (p : Problem) (routes others : List (List ℕ)) : Type 0 where
  pub turned : AreTurned routes others
  pub moved : IsPermutation (concat routes) (concat others)
  pub stops : All (λ r. r ≢ []) others
  pub fits : All (λ r. load_of p r ≤ p.capacity) others
  pub forward : IsSymmetric p → All RunsForward others
  pub priced : plan_cost p others ≡ plan_cost p routes
  pub no_later : IsNoLater (word_of others) (word_of routes)

not_nil : (route : List ℕ) → 0 < length route → route ≢ []
not_nil route some none = omega (arith, some, ap length none)

one_more_turned : (p : Problem) (route other : List ℕ) (routes others : List (List ℕ)) → 0 < length route → load_of p route ≤ p.capacity → Turned p route other → AllTurned p routes others → AllTurned p (route ∷ routes) (other ∷ others)
one_more_turned p route other routes others long light one rest = record {
  turned = (one.is, rest.turned);
  moved = IsPermutation-trans (route ++ concat routes) (other ++ concat routes) (other ++ concat others)
      (IsPermutation-append_left (concat routes) route other one.moved)
      (IsPermutation-append_right other (concat routes) (concat others) rest.moved);
  stops = All-cons (λ r. r ≢ []) other others (not_nil other one.some) rest.stops;
  fits = All-cons (λ r. load_of p r ≤ p.capacity) other others (omega (arith, light, sum_by-IsPermutation (demand_of p) route other one.moved)) rest.fits;
  forward = λ symmetric. All-cons RunsForward other others (one.forward symmetric) (rest.forward symmetric);
  priced = omega (arith, one.priced, rest.priced, sum_by-cons (route_cost p) route routes, sum_by-cons (route_cost p) other others);
  no_later = elim one.begins [
    | inl same ↦ rw same (no_later_behind (route ++ 0 ∷ []) (word_of others) (word_of routes) rest.no_later)
    | inr lower ↦ inr (begins_lower other route others routes one.some long lower)
  ];
}

all_turned : (p : Problem) (routes : List (List ℕ)) → 0 < place_count p → All (λ r. r ≢ []) routes → All (λ r. load_of p r ≤ p.capacity) routes → All (λ k. k < place_count p) (concat routes) → AllTurned p routes (map (turn p) routes)
all_turned p [] places stops fits within = record {
  turned = tt;
  moved = IsPermutation-refl [];
  stops = All-nil (λ r. r ≢ []);
  fits = All-nil (λ r. load_of p r ≤ p.capacity);
  forward = λ symmetric. All-nil RunsForward;
  priced = refl;
  no_later = inl refl;
}
all_turned p (route ∷ routes) places stops fits within =
    let long = has_length route (stops 0 route (omega arith)) in
    let one = turned_one p route long places (all_left (λ k. k < place_count p) route (concat routes) within) in
    let rest = all_turned p routes places (λ k d lt. stops (suc k) d (omega (arith, lt))) (λ k d lt. fits (suc k) d (omega (arith, lt))) (all_right (λ k. k < place_count p) route (concat routes) within) in
    one_more_turned p route (turn p route) routes (map (turn p) routes) long (fits 0 route (omega arith)) one rest

-- ---- the laws

some_place : (p : Problem) (routes : List (List ℕ)) → IsLawful p routes → All (λ k. k < place_count p) (concat routes)
some_place p routes lawful = λ i d lt. customer_below p (get_or (concat routes) i d) (Contains-permutation (concat routes) (customers p) (get_or (concat routes) i d) lawful.served (All-contains_itself (concat routes) i d lt))

no_place : (p : Problem) (routes : List (List ℕ)) → IsLawful p routes → (0 < place_count p) ⊎ (routes ≡ [])
no_place p [] lawful = inr refl
no_place p (route ∷ routes) lawful =
    let some : 0 < length route = has_length route (lawful.stops 0 route (omega arith)) in
    let within = all_left (λ k. k < place_count p) route (concat routes) (some_place p (route ∷ routes) lawful) in
    inl (omega (arith, within 0 0 some))

-- the routes of a feasible plan, turned so that they run forward: the word is no later
record ForwardPlan (p : Problem) (routes : List (List ℕ)) : Type 0 where
  pub others : List (List ℕ)
  pub turned : AreTurned routes others
  pub lawful : IsLawful p others
  pub forward : IsSymmetric p → All RunsForward others
  pub priced : plan_cost p others ≡ plan_cost p routes
  pub no_later : IsNoLater (word_of others) (word_of routes)

turned_plan : (p : Problem) (routes : List (List ℕ)) → IsLawful p routes → ForwardPlan p routes
turned_plan p routes lawful =
    elim (no_place p routes lawful) [
      | inl places ↦
          let all = all_turned p routes places lawful.stops lawful.fits (some_place p routes lawful) in
          let others = map (turn p) routes in
          record {
            others = others;
            turned = all.turned;
            lawful = record { served = IsPermutation-trans (concat others) (concat routes) (customers p) (IsPermutation-sym (concat routes) (concat others) all.moved) lawful.served; stops = all.stops; fits = all.fits; few = subst (λ n. HasTrucks p n) (sym (length-map routes (turn p))) lawful.few };
            forward = all.forward;
            priced = all.priced;
            no_later = all.no_later;
          }
      | inr none ↦ record { others = routes; turned = rw none tt; lawful = lawful; forward = λ symmetric. rw none (All-nil RunsForward); priced = refl; no_later = inl refl }
    ]

pub forward_plan : (p : Problem) (routes : List (List ℕ)) → IsLawful p routes
    → (others : List (List ℕ)) × AreTurned routes others × IsLawful p others × (IsSymmetric p → All RunsForward others) × (plan_cost p others ≡ plan_cost p routes)
forward_plan p routes lawful = let plan = turned_plan p routes lawful in (plan.others, plan.turned, plan.lawful, plan.forward, plan.priced)

-- each feasible plan has a feasible word of the same cost that is no later than its own
pub word_for_plan : (p : Problem) (routes : List (List ℕ)) → IsLawful p routes → (word : List ℕ) × IsLawfulWord p word × (word_cost p word ≡ plan_cost p routes) × (IsEarlier (word_of routes) word → ⊥)
word_for_plan p routes lawful =
    let turned = turned_plan p routes lawful in
    let (others, moved, still_lawful, rising, priced) = rising_plan p turned.others turned.lawful in
    let (lawful_word, cost) = word_of_plan p others still_lawful rising (λ symmetric. All-permutation RunsForward turned.others others moved (turned.forward symmetric)) in
    let no_later = no_later_transitive (word_of others) (word_of turned.others) (word_of routes) (rising_no_later p turned.others turned.lawful) turned.no_later in
    (word_of others, lawful_word, cost ∙ priced ∙ turned.priced, not_earlier (word_of others) (word_of routes) no_later)
