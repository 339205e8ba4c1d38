-- What becomes of the routes of a solution that are ordered and turned: the plan of their word has just these, and their word is
-- feasible where they are.
use Rattle.std.proofs.Common.{◌≡◌, ◌≢◌, ◌∙◌, ◌↔◌, ℕ, zero, suc, ◌+◌, ◌<◌, ◌≤◌, ◌==◌, ◌||◌, Bool, true, false, IsTrue, List, [], ◌∷◌, ◌++◌, length, get_or, map, refl, sym, ap, subst, arith, length-append}
use Rattle.std.specs.Prelude.{slice_index}
use Rattle.std.specs.List.{All, concat, list_any, sum_by}
use Rattle.std.specs.List.Sorted.{IsNonDecreasing, IsPermutation, IsStrictlyIncreasing}
use Rattle.std.proofs.lemmas.List.{get_or-append-add, length-map}
use Rattle.std.proofs.lemmas.List.Elements.{All-map, All-nil, All-weaker}
use Rattle.std.proofs.lemmas.List.Folds.{list_any-append}
use Rattle.std.proofs.lemmas.List.Sorted.{All-permutation, IsPermutation-sym, length_permutation, list_any-IsPermutation, sum_by-IsPermutation}
use Rattle.std.proofs.lemmas.List.Sums.{sum_by-cons}
use Rattle.vrp_model.specs.Problem.{HasTrucks, IsSymmetric, Problem, customers, demand_of, place_count}
use Rattle.vrp_model.specs.Route.{IsLawful, IsPlanOf, PricedPlan, load_of, plan_cost, route_cost}
use Rattle.vrp_model.specs.Word.{IsLawfulWord, RunsForward, closed_routes, first_stops, stands_in, word_of}
use Rattle.vrp_model.proofs.CustomerPlaces.{is_customer}
use Rattle.vrp_model.proofs.DistinctLists.{AreDistinct, AreDistinct-permutation, customers_distinct}
use Rattle.vrp_model.proofs.FittingPlans.{as_many_stops, each_stands, serves_each}
use Rattle.vrp_model.proofs.PlanWords.{closed_plan, has_length, word_of_plan}
use Rattle.vrp_model.proofs.Words.{AreClosed, IsStops, closed_routes_are}
use Rattle.vrp_plan_text.specs.Inner.Ordered.{AreOrdered, AreRoutesOf, start_of, turned}
use Rattle.vrp_plan_text.proofs.TurnedRoutes.{all_cost_turned, all_turned, first_of_turned, none_turned, turned_forward, turned_moves}

-- ---- the plan of the word

closed_from_all : (routes : List (List ℕ)) → All (λ r. 0 < length r) routes → All IsStops routes → AreClosed routes
closed_from_all [] some free = tt
closed_from_all (route ∷ routes) some free = (free 0 route (omega arith), some 0 route (omega arith), closed_from_all routes (λ k d lt. some (suc k) d (omega (arith, lt))) (λ k d lt. free (suc k) d (omega (arith, lt))))

length_turned : (symmetric : Bool) (route : List ℕ) → length (turned symmetric route) ≡ length route
length_turned symmetric route = length_permutation route (turned symmetric route) (turned_moves symmetric route)

some_turned : (symmetric : Bool) (routes : List (List ℕ)) → All (λ r. 0 < length r) routes → All (λ r. 0 < length r) (map (turned symmetric) routes)
some_turned symmetric routes some =
    All-map (λ r. 0 < length r) (turned symmetric) routes (All-weaker (λ r. 0 < length r) (λ r. 0 < length (turned symmetric r)) (λ r lt. omega (arith, lt, length_turned symmetric r)) routes some)

free_turned : (symmetric : Bool) (routes : List (List ℕ)) → All IsStops routes → All IsStops (map (turned symmetric) routes)
free_turned symmetric routes free =
    All-map IsStops (turned symmetric) routes (All-weaker IsStops (λ r. IsStops (turned symmetric r)) (λ r stops. All-permutation (λ k. (k == 0) ≡ false) r (turned symmetric r) (turned_moves symmetric r) stops) routes free)

same_routes : (routes others : List (List ℕ)) → AreClosed routes → AreClosed others → word_of routes ≡ word_of others → routes ≡ others
same_routes routes others are too same =
    sym (closed_routes_are routes [] are (All-nil (λ k. (k == 0) ≡ false))) ∙ ap (λ (w : List ℕ). closed_routes (w ++ [])) same ∙ closed_routes_are others [] too (All-nil (λ k. (k == 0) ≡ false))

as_they_are : (symmetric : Bool) (routes : List (List ℕ)) → (IsTrue symmetric → ⊥) → map (turned symmetric) routes ≡ routes
as_they_are true routes differs = absurd (differs refl)
as_they_are false routes differs = none_turned routes

-- the routes of the plan are those that are listed
pub routes_of_plan : (p : Problem) (symmetric : Bool) (listed ordered : List (List ℕ)) (word : List ℕ) (plan : PricedPlan) → (IsTrue symmetric ↔ IsSymmetric p) → 0 < place_count p → AreOrdered symmetric listed ordered
    → word ≡ word_of (map (turned symmetric) ordered) → All (λ r. 0 < length r) listed → All IsStops listed → All (λ r. All (λ k. k < place_count p) r) listed → IsPlanOf p plan → word_of plan.routes ≡ word
    → AreRoutesOf p listed plan.routes
routes_of_plan p symmetric listed ordered word plan tells places are is some free within plan_of has =
    let long = All-permutation (λ r. 0 < length r) listed ordered are.same some in
    let stops = All-permutation IsStops listed ordered are.same free in
    let closed = closed_from_all (map (turned symmetric) ordered) (some_turned symmetric ordered long) (free_turned symmetric ordered stops) in
    let same : plan.routes ≡ map (turned symmetric) ordered = same_routes plan.routes (map (turned symmetric) ordered) (closed_plan p plan.routes plan_of.lawful) closed (has ∙ is) in
    let turned_cost : plan_cost p (map (turned symmetric) ordered) ≡ plan_cost p ordered =
    all_cost_turned p symmetric ordered (λ yes. tells.0 yes) places (All-permutation (λ r. All (λ k. k < place_count p) r) listed ordered are.same within) in
    let listed_cost : plan_cost p ordered ≡ plan_cost p listed = sum_by-IsPermutation (route_cost p) listed ordered are.same in
    record {
      ordered = ordered;
      same = are.same;
      turned = rw same (all_turned symmetric ordered);
      as_listed = λ differs. same ∙ as_they_are symmetric ordered (λ yes. differs (tells.0 yes));
      cost = ap (plan_cost p) same ∙ turned_cost ∙ listed_cost;
    }

-- ---- whom routes serve

abbrev test : ℕ → List ℕ → Bool
test k route = list_any (λ symbol. symbol == k) (route ++ 0 ∷ [])

any_in_word : (k : ℕ) (routes : List (List ℕ)) → stands_in (word_of routes) k ≡ list_any (test k) routes
any_in_word k [] = refl
any_in_word k (route ∷ routes) = list_any-append (λ symbol. symbol == k) (route ++ 0 ∷ []) (word_of routes) ∙ ap (λ b. test k route || b) (any_in_word k routes)

test_turned : (k : ℕ) (symmetric : Bool) (route : List ℕ) → test k (turned symmetric route) ≡ test k route
test_turned k symmetric route =
    list_any-append (λ symbol. symbol == k) (turned symmetric route) (0 ∷ [])
    ∙ ap (λ b. b || list_any (λ symbol. symbol == k) (0 ∷ [])) (sym (list_any-IsPermutation (λ symbol. symbol == k) route (turned symmetric route) (turned_moves symmetric route)))
    ∙ sym (list_any-append (λ symbol. symbol == k) route (0 ∷ []))

any_turned : (k : ℕ) (symmetric : Bool) (routes : List (List ℕ)) → list_any (test k) (map (turned symmetric) routes) ≡ list_any (test k) routes
any_turned k symmetric [] = refl
any_turned k symmetric (route ∷ routes) = ap (λ b. b || list_any (test k) (map (turned symmetric) routes)) (test_turned k symmetric route) ∙ ap (λ b. test k route || b) (any_turned k symmetric routes)

count_stops : (routes : List (List ℕ)) → length (concat routes) ≡ sum_by length routes
count_stops [] = refl
count_stops (route ∷ routes) = omega (arith, length-append route (concat routes), count_stops routes, sum_by-cons length route routes)

count_turned : (symmetric : Bool) (routes : List (List ℕ)) → sum_by length (map (turned symmetric) routes) ≡ sum_by length routes
count_turned symmetric [] = refl
count_turned symmetric (route ∷ routes) =
    omega (arith, length_turned symmetric route, count_turned symmetric routes, sum_by-cons length route routes, sum_by-cons length (turned symmetric route) (map (turned symmetric) routes))

-- the same customers, each once
serves_turned : (p : Problem) (symmetric : Bool) (listed ordered : List (List ℕ)) → 0 < place_count p → IsPermutation listed ordered → IsPermutation (concat listed) (customers p) → IsPermutation (concat (map (turned symmetric) ordered)) (customers p)
serves_turned p symmetric listed ordered places same served =
    let routes = map (turned symmetric) ordered in
    let many : length (concat routes) + 1 ≡ place_count p =
    omega (arith, as_many_stops p listed served, count_stops listed, count_stops routes, count_turned symmetric ordered, sum_by-IsPermutation length listed ordered same, places) in
    serves_each p routes many (λ k above below.
    any_in_word k routes ∙ any_turned k symmetric ordered ∙ sym (list_any-IsPermutation (test k) listed ordered same) ∙ sym (any_in_word k listed) ∙ each_stands p listed k served (is_customer p k above below))

-- ---- their order

first_at : (route : List ℕ) (rest : List ℕ) (d : ℕ) → 0 < length route → get_or (route ++ rest) 0 d ≡ slice_index route 0
first_at [] rest d some = absurd (omega arith)
first_at (stop ∷ route) rest d some = refl

pub right_distinct : (xs ys : List ℕ) → AreDistinct (xs ++ ys) → AreDistinct ys
right_distinct xs ys distinct = λ i j d lt within same.
    distinct (length xs + i) (length xs + j) d (omega (arith, lt)) (omega (arith, within, length-append xs ys)) (get_or-append-add xs ys i d ∙ same ∙ sym (get_or-append-add xs ys j d))

-- two routes side by side start at different customers
next_differs : (routes : List (List ℕ)) (k : ℕ) (d : ℕ) → AreDistinct (concat routes) → All (λ r. 0 < length r) routes → k + 1 < length routes → get_or (first_stops routes) k d ≢ get_or (first_stops routes) (k + 1) d
next_differs [] k d distinct some lt = absurd (omega (arith, lt))
next_differs (route ∷ []) k d distinct some lt = absurd (omega (arith, lt))
next_differs (route ∷ next ∷ routes) zero d distinct some lt =
    let here : 0 < length route = some 0 route (omega arith) in
    let there : 0 < length next = some 1 next (omega arith) in
    let left = first_at route (next ++ concat routes) 0 here in
    let right : get_or (route ++ (next ++ concat routes)) (length route + 0) 0 ≡ slice_index next 0 = get_or-append-add route (next ++ concat routes) 0 0 ∙ first_at next (concat routes) 0 there in
    λ same. distinct 0 (length route + 0) 0 (omega (arith, here)) (omega (arith, there, length-append route (next ++ concat routes), length-append next (concat routes))) (left ∙ same ∙ sym right)
next_differs (route ∷ next ∷ routes) (suc k) d distinct some lt =
    let e : suc k + 1 ≡ suc (k + 1) = omega arith in
    rw e (next_differs (next ∷ routes) k d (right_distinct route (concat (next ∷ routes)) distinct) (λ i f within. some (suc i) f (omega (arith, within))) (omega (arith, lt)))

firsts_are : (symmetric : Bool) (routes : List (List ℕ)) → All (λ r. 0 < length r) routes → first_stops (map (turned symmetric) routes) ≡ map (start_of symmetric) routes
firsts_are symmetric [] some = refl
firsts_are symmetric (route ∷ routes) some =
    ap (λ k. k ∷ first_stops (map (turned symmetric) routes)) (first_of_turned symmetric route (some 0 route (omega arith)))
    ∙ ap (λ (l : List ℕ). start_of symmetric route ∷ l) (firsts_are symmetric routes (λ k d lt. some (suc k) d (omega (arith, lt))))

rising_firsts : (symmetric : Bool) (routes : List (List ℕ)) → All (λ r. 0 < length r) routes → IsNonDecreasing (map (start_of symmetric) routes) → AreDistinct (concat (map (turned symmetric) routes)) → IsStrictlyIncreasing (first_stops (map (turned symmetric) routes))
rising_firsts symmetric routes some rising distinct = λ k lt.
    let others = map (turned symmetric) routes in
    let firsts = subst IsNonDecreasing (sym (firsts_are symmetric routes some)) rising in
    let many : length (first_stops others) ≡ length others = length-map others (λ (r : List ℕ). slice_index r 0) in
    let differ = next_differs others k 0 distinct (some_turned symmetric routes some) (omega (arith, lt, many)) in
    omega (arith, firsts k (k + 1) 0 (omega arith) lt, differ)

-- ---- the word is feasible

true_symmetric : (symmetric : Bool) (routes : List (List ℕ)) → symmetric ≡ true → All (λ r. 0 < length r) routes → All RunsForward (map (turned symmetric) routes)
true_symmetric symmetric routes is some =
    rw is (All-map RunsForward (turned true) routes (All-weaker (λ r. 0 < length r) (λ r. RunsForward (turned true r)) (λ r lt. turned_forward r lt) routes some))

-- the word of a feasible plan's routes, ordered and turned, is feasible
pub word_is_lawful : (p : Problem) (symmetric : Bool) (listed ordered : List (List ℕ)) → 0 < place_count p → (IsTrue symmetric ↔ IsSymmetric p) → AreOrdered symmetric listed ordered → IsLawful p listed → IsLawfulWord p (word_of (map (turned symmetric) ordered))
word_is_lawful p symmetric listed ordered places tells are lawful =
    let routes = map (turned symmetric) ordered in
    let some : All (λ r. 0 < length r) ordered = All-permutation (λ r. 0 < length r) listed ordered are.same (All-weaker (λ r. r ≢ []) (λ r. 0 < length r) has_length listed lawful.stops) in
    let served = serves_turned p symmetric listed ordered places are.same lawful.served in
    let distinct : AreDistinct (concat routes) = AreDistinct-permutation (customers p) (concat routes) (IsPermutation-sym (concat routes) (customers p) served) (customers_distinct p) in
    let light = All-permutation (λ r. load_of p r ≤ p.capacity) listed ordered are.same lawful.fits in
    let turned_lawful : IsLawful p routes = record {
      served = served;
      stops = All-weaker (λ r. 0 < length r) (λ r. r ≢ []) (λ r lt none. omega (arith, lt, ap length none)) routes (some_turned symmetric ordered some);
      fits = All-map (λ r. load_of p r ≤ p.capacity) (turned symmetric) ordered (All-weaker (λ r. load_of p r ≤ p.capacity) (λ r. load_of p (turned symmetric r) ≤ p.capacity) (λ r le. omega (arith, le, sum_by-IsPermutation (demand_of p) r (turned symmetric r) (turned_moves symmetric r))) ordered light);
      few = subst (HasTrucks p) (sym (length-map ordered (turned symmetric) ∙ length_permutation listed ordered are.same)) lawful.few;
    } in
    (word_of_plan p routes turned_lawful (rising_firsts symmetric ordered some are.rising distinct) (λ is. true_symmetric symmetric ordered (tells.1 is) some)).0
