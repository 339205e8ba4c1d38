-- Feasible words are the words of feasible plans whose routes rise by first customer and run forward.
use Rattle.std.proofs.Common.{◌≡◌, ◌≢◌, ℕ, zero, suc, ◌+◌, ◌≤◌, ◌<◌, true, not, ◌==◌, false, List, [], ◌∷◌, ◌++◌, length, length-append, get_or, refl, sym, ap, subst, ◌∙◌, append-nil, arith}
use Rattle.std.specs.List.{All, Contains, concat, filter}
use Rattle.std.specs.List.Sorted.{IsPermutation, IsStrictlyIncreasing}
use Rattle.std.proofs.lemmas.List.Elements.{All-cons, All-contains_itself, All-nil, filter-append}
use Rattle.std.proofs.Math.ListN.{get_or-append}
use Rattle.std.proofs.lemmas.List.{get_or-append-add}
use Rattle.std.proofs.lemmas.List.Sums.{sum_by-cons}
use Rattle.std.proofs.lemmas.List.Sorted.{IsPermutation-sym, Contains-permutation}
use Rattle.vrp_model.specs.Problem.{HasTrucks, IsSymmetric, Problem, customers}
use Rattle.vrp_model.specs.Route.{IsLawful, IsPlanOf, PricedPlan, cost_along, load_of, plan_cost, route_cost}
use Rattle.vrp_model.specs.Word.{HasStops, IsLawfulWord, RunsForward, closed_routes, first_stops, last_symbol, routes_of, served_in, word_cost, word_of}
use Rattle.vrp_model.proofs.Words.{AreClosed, HasStops-append, IsStops, closed_routes_are, is_stop, last_behind, last_behind-append, routes_are, shape_of}
use Rattle.vrp_model.proofs.PrefixWithSymbol.{last_of_shape, last_stop}
use Rattle.vrp_model.proofs.DistinctLists.{AreDistinct, AreDistinct-permutation, customers_distinct, same_elements}
use Rattle.vrp_model.proofs.CustomerPlaces.{customer_is_some}

all_stops_kept : (stops : List ℕ) → IsStops stops → filter (λ k. not (k == 0)) stops ≡ stops
all_stops_kept [] free = refl
all_stops_kept (k ∷ stops) free =
    let here : (k == 0) ≡ false = free 0 k (omega arith) in
    rw here (ap (λ rest. k ∷ rest) (all_stops_kept stops (λ i d lt. free (suc i) d (omega arith))))

-- the customers of closed routes
pub served_by : (routes : List (List ℕ)) → AreClosed routes → served_in (word_of routes) ≡ concat routes
served_by [] are = refl
served_by (route ∷ routes) are =
    filter-append (λ k. not (k == 0)) (route ++ 0 ∷ []) (word_of routes)
    ∙ ap (λ (xs : List ℕ). xs ++ served_in (word_of routes)) (filter-append (λ k. not (k == 0)) route (0 ∷ []) ∙ append-nil (served_in route) ∙ all_stops_kept route are.0)
    ∙ ap (λ (xs : List ℕ). route ++ xs) (served_by routes are.2)

-- what is paid along two parts of a path
pub cost_parts : (p : Problem) (at : ℕ) (xs ys : List ℕ) → cost_along p at (xs ++ ys) ≡ cost_along p at xs + cost_along p (last_behind at xs) ys
cost_parts p at [] ys = omega arith
cost_parts p at (x ∷ xs) ys = omega (arith, cost_parts p x xs ys)

-- what is paid along the word of routes
pub cost_of_word : (p : Problem) (routes : List (List ℕ)) → word_cost p (word_of routes) ≡ plan_cost p routes
cost_of_word p [] = refl
cost_of_word p (route ∷ routes) =
    let both = cost_parts p 0 (route ++ 0 ∷ []) (word_of routes) in
    let home : last_behind 0 (route ++ 0 ∷ []) ≡ 0 = last_behind-append 0 route (0 ∷ []) in
    let rest : cost_along p (last_behind 0 (route ++ 0 ∷ [])) (word_of routes) ≡ plan_cost p routes = rw home (cost_of_word p routes) in
    let split : word_cost p (word_of (route ∷ routes)) ≡ cost_along p 0 ((route ++ 0 ∷ []) ++ word_of routes) = refl in
    let plan : plan_cost p (route ∷ routes) ≡ cost_along p 0 (route ++ 0 ∷ []) + plan_cost p routes = sum_by-cons (route_cost p) route routes in
    omega (arith, both, rest, split, plan)

some_stops : (routes : List (List ℕ)) → AreClosed routes → All (λ r. r ≢ []) routes
some_stops [] are = All-nil (λ r. r ≢ [])
some_stops (route ∷ routes) are =
    All-cons (λ r. r ≢ []) route routes (λ none. absurd (let e : length route ≡ 0 = ap length none in omega (arith, e, are.1))) (some_stops routes are.2)

-- ---- from a word to its plan

plan_of_closed : (p : Problem) (word : List ℕ) (routes : List (List ℕ)) → IsLawfulWord p word → word ≡ word_of routes → AreClosed routes
    → (others : List (List ℕ)) × (word ≡ word_of others) × IsLawful p others × IsStrictlyIncreasing (first_stops others) × (IsSymmetric p → All RunsForward others) × (plan_cost p others ≡ word_cost p word)
plan_of_closed p word routes lawful is are =
    let served : served_in word ≡ concat routes = ap served_in is ∙ served_by routes are in
    let same : routes_of word ≡ routes = ap routes_of (is ∙ sym (append-nil (word_of routes))) ∙ routes_are routes [] are (All-nil _) ∙ append-nil routes in
    let closed : closed_routes word ≡ routes = ap closed_routes (is ∙ sym (append-nil (word_of routes))) ∙ closed_routes_are routes [] are (All-nil _) in
    let distinct : AreDistinct (concat routes) = subst AreDistinct served lawful.prefix.once in (
      routes,
      is,
      record {
        served = same_elements (customers p) (concat routes) distinct (customers_distinct p)
            (subst (λ (xs : List ℕ). All (Contains xs) (customers p)) served lawful.every)
            (subst (All (Contains (customers p))) served lawful.prefix.known);
        stops = some_stops routes are;
        fits = subst (All (λ r. load_of p r ≤ p.capacity)) same lawful.prefix.fits;
        few = subst (λ (rs : List (List ℕ)). HasTrucks p (length rs)) same lawful.prefix.few;
      },
      subst (λ (rs : List (List ℕ)). IsStrictlyIncreasing (first_stops rs)) same lawful.prefix.rising,
      λ symmetric. subst (All RunsForward) closed (lawful.prefix.forward symmetric),
      sym (cost_of_word p routes) ∙ ap (word_cost p) (sym is),
    )

by_open : (p : Problem) (word : List ℕ) (closed : List (List ℕ)) (stops : List ℕ) → IsLawfulWord p word → word ≡ word_of closed ++ stops → AreClosed closed → IsStops stops
    → (others : List (List ℕ)) × (word ≡ word_of others) × IsLawful p others × IsStrictlyIncreasing (first_stops others) × (IsSymmetric p → All RunsForward others) × (plan_cost p others ≡ word_cost p word)
by_open p word closed [] lawful is are free = plan_of_closed p word closed lawful (is ∙ append-nil (word_of closed)) are
by_open p word closed (stop ∷ stops) lawful is are free =
    let ends : last_symbol word ≡ last_behind 0 (stop ∷ stops) = ap last_symbol is ∙ last_of_shape closed (stop ∷ stops) in
    absurd (omega (arith, ends, lawful.closed, last_stop 0 (stop ∷ stops) free (omega arith)))

-- a feasible word is the word of a feasible plan
pub plan_of_word : (p : Problem) (word : List ℕ) → IsLawfulWord p word
    → (others : List (List ℕ)) × (word ≡ word_of others) × IsLawful p others × IsStrictlyIncreasing (first_stops others) × (IsSymmetric p → All RunsForward others) × (plan_cost p others ≡ word_cost p word)
plan_of_word p word lawful =
    let s = shape_of word lawful.prefix.stops in
    by_open p word s.closed s.open_stops lawful s.is s.are_closed s.are_stops

-- ---- from a plan to its word

read_left : (xs ys : List ℕ) (i d : ℕ) → i < length xs → get_or (xs ++ ys) i d ≡ get_or xs i d
read_left xs ys i d lt = get_or-append xs ys d i lt

read_right : (xs ys : List ℕ) (i d : ℕ) → get_or (xs ++ ys) (length xs + i) d ≡ get_or ys i d
read_right xs ys i d = get_or-append-add xs ys i d

-- a route that is not empty has a stop
pub has_length : (route : List ℕ) → route ≢ [] → 0 < length route
has_length [] differs = absurd (differs refl)
has_length (k ∷ route) differs = omega arith

stops_alone : (before : ℕ) (stops : List ℕ) → IsStops stops → HasStops before stops
stops_alone before [] free = tt
stops_alone before (zero ∷ stops) free = absurd (let never : true ≡ false = free 0 0 (omega arith) in cc)
stops_alone before (suc k ∷ stops) free = ((λ e. absurd (omega (arith, e))), stops_alone (suc k) stops (λ i d lt. free (suc i) d (omega arith)))

closed_from : (routes : List (List ℕ)) → All (λ r. r ≢ []) routes → All (λ k. 0 < k) (concat routes) → AreClosed routes
closed_from [] some above = tt
closed_from (route ∷ routes) some above = (
  λ i d lt. is_stop (get_or route i d) (subst (λ n. 0 < n) (read_left route (concat routes) i d lt) (above i d (omega (arith, lt, length-append route (concat routes))))),
  has_length route (some 0 route (omega arith)),
  closed_from routes (λ i d lt. some (suc i) d (omega arith)) (λ i d lt. subst (λ n. 0 < n) (read_right route (concat routes) i d) (above (length route + i) d (omega (arith, lt, length-append route (concat routes))))),
)

stops_of_closed : (routes : List (List ℕ)) (before : ℕ) → AreClosed routes → HasStops before (word_of routes)
stops_of_closed [] before are = tt
stops_of_closed (route ∷ routes) before are =
    HasStops-append before (route ++ 0 ∷ []) (word_of routes)
    (HasStops-append before route (0 ∷ []) (stops_alone before route are.0) ((λ _. last_stop before route are.0 are.1), tt))
    (stops_of_closed routes (last_behind before (route ++ 0 ∷ [])) are.2)

-- the routes of a feasible plan are closed ones
pub closed_plan : (p : Problem) (routes : List (List ℕ)) → IsLawful p routes → AreClosed routes
closed_plan p routes lawful =
    closed_from routes lawful.stops (λ i d lt. customer_is_some p (get_or (concat routes) i d) (Contains-permutation (concat routes) (customers p) (get_or (concat routes) i d) lawful.served (All-contains_itself (concat routes) i d lt)))

-- the routes whose word is feasible are feasible
pub lawful_of_closed : (p : Problem) (word : List ℕ) (routes : List (List ℕ)) → IsLawfulWord p word → word ≡ word_of routes → AreClosed routes → IsLawful p routes
unfolding plan_of_closed
lawful_of_closed p word routes lawful is are = (plan_of_closed p word routes lawful is are).2

-- the word of a feasible plan is feasible, where its routes rise and run forward
pub word_of_plan : (p : Problem) (routes : List (List ℕ)) → IsLawful p routes → IsStrictlyIncreasing (first_stops routes) → (IsSymmetric p → All RunsForward routes)
    → IsLawfulWord p (word_of routes) × (word_cost p (word_of routes) ≡ plan_cost p routes)
word_of_plan p routes lawful rising forward =
    let closed_are : AreClosed routes → closed_routes (word_of routes) ≡ routes = λ are. ap closed_routes (sym (append-nil (word_of routes))) ∙ closed_routes_are routes [] are (All-nil _) in
    let back : IsPermutation (customers p) (concat routes) = IsPermutation-sym (concat routes) (customers p) lawful.served in
    let above : All (λ k. 0 < k) (concat routes) = λ i d lt. customer_is_some p (get_or (concat routes) i d) (Contains-permutation (concat routes) (customers p) (get_or (concat routes) i d) lawful.served (All-contains_itself (concat routes) i d lt)) in
    let are : AreClosed routes = closed_from routes lawful.stops above in
    let served : served_in (word_of routes) ≡ concat routes = served_by routes are in
    let same : routes_of (word_of routes) ≡ routes = ap routes_of (sym (append-nil (word_of routes))) ∙ routes_are routes [] are (All-nil _) ∙ append-nil routes in (
      record {
        prefix = record {
          known = subst (All (Contains (customers p))) (sym served) (λ i d lt. Contains-permutation (concat routes) (customers p) (get_or (concat routes) i d) lawful.served (All-contains_itself (concat routes) i d lt));
          once = subst AreDistinct (sym served) (AreDistinct-permutation (customers p) (concat routes) back (customers_distinct p));
          stops = stops_of_closed routes 0 are;
          fits = subst (All (λ r. load_of p r ≤ p.capacity)) (sym same) lawful.fits;
          rising = subst (λ (rs : List (List ℕ)). IsStrictlyIncreasing (first_stops rs)) (sym same) rising;
          few = subst (λ (rs : List (List ℕ)). HasTrucks p (length rs)) (sym same) lawful.few;
          forward = λ symmetric. subst (All RunsForward) (sym (closed_are are)) (forward symmetric);
        };
        every = subst (λ (xs : List ℕ). All (Contains xs) (customers p)) (sym served) (λ i d lt. Contains-permutation (customers p) (concat routes) (get_or (customers p) i d) back (All-contains_itself (customers p) i d lt));
        closed = ap last_symbol (sym (append-nil (word_of routes))) ∙ last_of_shape routes [];
      },
      cost_of_word p routes,
    )

-- the word of a feasible plan whose routes rise and run forward, at the plan's cost
pub lawful_word_of : (p : Problem) (plan : PricedPlan) → IsPlanOf p plan → IsStrictlyIncreasing (first_stops plan.routes) → (IsSymmetric p → All RunsForward plan.routes) → IsLawfulWord p (word_of plan.routes) × (word_cost p (word_of plan.routes) ≡ plan.cost)
lawful_word_of p plan plan_of rising forward =
    let (lawful, price) = word_of_plan p plan.routes plan_of.lawful rising forward in
    (lawful, price ∙ sym plan_of.priced)
