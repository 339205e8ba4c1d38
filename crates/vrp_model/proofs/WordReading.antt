-- A word while its routes are read from the front.
use Rattle.std.proofs.Common.{◌≡◌, ℕ, zero, suc, ◌+◌, ◌*◌, ◌-◌, ◌≤◌, ◌<◌, true, false, not, ◌==◌, List, [], ◌∷◌, ◌++◌, length, length-append, take, drop, get_or, refl, sym, ap, subst, ◌∙◌, append_assoc, append-nil, arith}
use Rattle.std.specs.List.{All, Contains, concat, position_or_len}
use Rattle.std.specs.List.Sorted.{IsStrictlyIncreasing}
use Rattle.std.specs.Prelude.{slice_index}
use Rattle.std.proofs.Math.ListN.{get_or-append}
use Rattle.std.proofs.Math.Seq.{take-append_seam}
use Rattle.std.proofs.lemmas.Bool.Decides.{nat_tests}
use Rattle.std.proofs.lemmas.List.{get_or-append-add, map-append, take_more, take_rest, nil_from_length}
use Rattle.std.proofs.lemmas.List.Elements.{All-cons, All-nil}
use Rattle.std.proofs.lemmas.List.Sorted.{length_permutation}
use Rattle.std.proofs.lemmas.List.FromFn.{length-range_with_len}
use Rattle.vrp_model.specs.Problem.{Problem, IsProblem, customers, place_count, weight_of}
use Rattle.vrp_model.specs.Route.{cost_along, plan_cost, route_cost}
use Rattle.vrp_model.specs.Inner.Stops.{IsWordEnd}
use Rattle.vrp_model.specs.Word.{HasStops, IsLawfulWord, first_stops, routes_of, served_in, word_of}
use Rattle.vrp_model.proofs.PrefixesBefore.{rising_left}
use Rattle.vrp_model.proofs.Words.{AreClosed, length_of_word, AreClosed-append, IsStops, is_stop, last_behind, last_behind-append, last_is, open_routes, routes_are, shape_of, word_of-append}
use Rattle.vrp_model.proofs.PlanWords.{closed_plan, cost_parts, plan_of_word}
use Rattle.vrp_model.proofs.PlanLemmas.{plan_cost_push}
use Rattle.vrp_model.proofs.CustomerPlaces.{customer_below}

-- the routes that a feasible word begins with rise
pub read_routes_rise : (p : Problem) (word : List ℕ) (routes : List (List ℕ)) (rest : List ℕ) → IsLawfulWord p word → word ≡ word_of routes ++ rest → AreClosed routes → IsWordEnd rest → IsStrictlyIncreasing (first_stops routes)
read_routes_rise p word routes rest lawful is are end =
    let s = shape_of rest end.stops in
    let whole : word ≡ word_of (routes ++ s.closed) ++ s.open_stops = is ∙ ap (λ (w : List ℕ). word_of routes ++ w) s.is ∙ sym (append_assoc (word_of routes) (word_of s.closed) s.open_stops) ∙ ap (λ (w : List ℕ). w ++ s.open_stops) (sym (word_of-append routes s.closed)) in
    let all : routes_of word ≡ routes ++ (s.closed ++ open_routes s.open_stops) = ap routes_of whole ∙ routes_are (routes ++ s.closed) s.open_stops (AreClosed-append routes s.closed are s.are_closed) s.are_stops ∙ append_assoc routes s.closed (open_routes s.open_stops) in
    let firsts : first_stops (routes_of word) ≡ first_stops routes ++ first_stops (s.closed ++ open_routes s.open_stops) = ap first_stops all ∙ map-append (λ r. slice_index r 0) routes (s.closed ++ open_routes s.open_stops) in
    rising_left (first_stops routes) (first_stops (s.closed ++ open_routes s.open_stops)) (subst IsStrictlyIncreasing firsts lawful.prefix.rising)

-- one more stop on the way
pub arc_more : (p : Problem) (stops : List ℕ) (k : ℕ) → k < length stops
    → (cost_along p 0 (take (k + 1) stops) ≡ cost_along p 0 (take k stops) + weight_of p (last_behind 0 (take k stops)) (get_or stops k 0)) × (last_behind 0 (take (k + 1) stops) ≡ get_or stops k 0)
arc_more p stops k lt =
    let more : take (k + 1) stops ≡ take k stops ++ get_or stops k 0 ∷ [] = take_more stops k 0 lt in (
      ap (cost_along p 0) more ∙ (let parts = cost_parts p 0 (take k stops) (get_or stops k 0 ∷ []) in omega (arith, parts)),
      ap (last_behind 0) more ∙ last_behind-append 0 (take k stops) (get_or stops k 0 ∷ []),
    )

pub arc_home : (p : Problem) (stops : List ℕ) → route_cost p stops ≡ cost_along p 0 stops + weight_of p (last_behind 0 stops) 0
arc_home p stops = let parts = cost_parts p 0 stops (0 ∷ []) in omega (arith, parts)

-- the routes that were read, and what is left of the word
pub record ReadsRoutes (p : Problem) (word : List ℕ) (routes : List (List ℕ)) (cost : ℕ) (rest : List ℕ) : Type 0 where
  pub is : word ≡ word_of routes ++ rest
  pub are_closed : AreClosed routes
  pub end : IsWordEnd rest
  pub priced : cost ≡ plan_cost p routes
  pub small : cost + 1000000000 * length rest ≤ 1000000000 * length word
  pub places : All (λ k. k < place_count p) rest

-- what stands behind the first route
pub record FirstRoute (rest : List ℕ) : Type 0 where
  pub route : List ℕ
  pub behind : List ℕ
  pub is : rest ≡ route ++ 0 ∷ behind
  pub are_stops : IsStops route
  pub some : 0 < length route
  pub place : position_or_len (λ k. k == 0) rest ≡ length route
  pub stops : HasStops 0 behind
  pub ends : last_behind 0 behind ≡ 0

-- what is left of a route behind its first stop
pub record RouteBehind (rest : List ℕ) : Type 0 where
  pub route : List ℕ
  pub behind : List ℕ
  pub is : rest ≡ route ++ 0 ∷ behind
  pub are_stops : IsStops route
  pub place : position_or_len (λ k. k == 0) rest ≡ length route
  pub stops : HasStops 0 behind
  pub ends : last_behind 0 behind ≡ 0

route_behind : (before : ℕ) (rest : List ℕ) → HasStops before rest → last_behind before rest ≡ 0 → 0 < before → RouteBehind rest
route_behind before [] has ends some = absurd (omega (arith, ends, some))
route_behind before (zero ∷ rest) has ends some = record { route = []; behind = rest; is = refl; are_stops = All-nil (λ k. (k == 0) ≡ false); place = refl; stops = has.1; ends = ends }
route_behind before (suc k ∷ rest) has ends some =
    let later = route_behind (suc k) rest has.1 ends (omega arith) in
    let test : (suc k == 0) ≡ false = is_stop (suc k) (omega arith) in
    record {
      route = suc k ∷ later.route;
      behind = later.behind;
      is = ap (λ xs. suc k ∷ xs) later.is;
      are_stops = All-cons (λ n. (n == 0) ≡ false) (suc k) later.route test later.are_stops;
      place = rw test (omega (arith, later.place));
      stops = later.stops;
      ends = later.ends;
    }

first_route : (rest : List ℕ) → HasStops 0 rest → last_behind 0 rest ≡ 0 → 0 < length rest → FirstRoute rest
first_route [] has ends some = absurd (omega arith)
first_route (zero ∷ rest) has ends some = absurd (omega (arith, has.0 refl))
first_route (suc k ∷ rest) has ends some =
    let later = route_behind (suc k) rest has.1 ends (omega arith) in
    let test : (suc k == 0) ≡ false = is_stop (suc k) (omega arith) in
    record {
      route = suc k ∷ later.route;
      behind = later.behind;
      is = ap (λ xs. suc k ∷ xs) later.is;
      are_stops = All-cons (λ n. (n == 0) ≡ false) (suc k) later.route test later.are_stops;
      some = omega arith;
      place = rw test (omega (arith, later.place));
      stops = later.stops;
      ends = later.ends;
    }

-- what is left is its first route, a 0, and what is left behind it
pub first_of_end : (rest : List ℕ) → IsWordEnd rest → 0 < length rest → FirstRoute rest
first_of_end rest end some = first_route rest end.stops (sym (last_is rest) ∙ end.ends) some

pub end_behind : (rest : List ℕ) (first : FirstRoute rest) → IsWordEnd first.behind
end_behind rest first = record { stops = first.stops; ends = last_is first.behind ∙ first.ends }

pub prefix_is : (route behind : List ℕ) → take (length route) (route ++ 0 ∷ behind) ≡ route
prefix_is route behind = take-append_seam route (0 ∷ behind)

pub behind_is : (route behind : List ℕ) → drop (length route + 1) (route ++ 0 ∷ behind) ≡ behind
behind_is [] behind = refl
behind_is (k ∷ route) behind = let e : length (k ∷ route) + 1 ≡ suc (length route + 1) = omega arith in rw e (behind_is route behind)

pub first_place : (rest : List ℕ) → IsWordEnd rest → 0 < length rest → position_or_len (λ k. k == 0) rest < length rest
first_place rest end some =
    let first = first_of_end rest end some in
    let long : length rest ≡ length first.route + (length first.behind + 1) = ap length first.is ∙ length-append first.route (0 ∷ first.behind) ∙ (omega arith) in
    omega (arith, long, first.place)

-- what split_route gives
pub record Splits (rest prefix behind : List ℕ) : Type 0 where
  pub whole : rest ≡ prefix ++ 0 ∷ behind
  pub stops : IsStops prefix
  pub some : 0 < length prefix
  pub end : IsWordEnd behind

pub splits : (rest : List ℕ) (n : ℕ) → IsWordEnd rest → 0 < length rest → n ≡ position_or_len (λ k. k == 0) rest → Splits rest (take n rest) (take (length rest - (n + 1)) (drop (n + 1) rest))
splits rest n end some is =
    let first = first_of_end rest end some in
    let place : n ≡ length first.route = is ∙ first.place in
    let prefix : take n rest ≡ first.route = ap (λ k. take k rest) place ∙ ap (take (length first.route)) first.is ∙ prefix_is first.route first.behind in
    let behind : take (length rest - (n + 1)) (drop (n + 1) rest) ≡ first.behind = take_rest rest (n + 1) ∙ ap (λ k. drop (k + 1) rest) place ∙ ap (drop (length first.route + 1)) first.is ∙ behind_is first.route first.behind in
    record {
      whole = first.is ∙ ap (λ (xs : List ℕ). xs ++ 0 ∷ first.behind) (sym prefix) ∙ ap (λ (xs : List ℕ). take n rest ++ 0 ∷ xs) (sym behind);
      stops = subst IsStops (sym prefix) first.are_stops;
      some = rw prefix first.some;
      end = subst IsWordEnd (sym behind) (end_behind rest first);
    }

-- ---- the invariant

pub all_left : (P : ℕ → Type 0) (xs ys : List ℕ) → All P (xs ++ ys) → All P xs
all_left P xs ys all = λ k d lt. subst P (get_or-append xs ys d k lt) (all k d (omega (arith, lt, length-append xs ys)))

pub all_right : (P : ℕ → Type 0) (xs ys : List ℕ) → All P (xs ++ ys) → All P ys
all_right P xs ys all = λ k d lt. subst P (get_or-append-add xs ys k d) (all (length xs + k) d (omega (arith, lt, length-append xs ys)))

pub symbol_places : (p : Problem) (word : List ℕ) → 0 < place_count p → All (Contains (customers p)) (served_in word) → All (λ k. k < place_count p) word
symbol_places p [] some known = All-nil (λ k. k < place_count p)
symbol_places p (zero ∷ word) some known = All-cons (λ k. k < place_count p) 0 word some (symbol_places p word some known)
symbol_places p (suc j ∷ word) some known =
    let kept : served_in (suc j ∷ word) ≡ suc j ∷ served_in word = (let test : not (suc j == 0) ≡ true = grind (arith, nat_tests) in rw test refl) in
    let all = subst (All (Contains (customers p))) kept known in
    All-cons (λ k. k < place_count p) (suc j) word (customer_below p (suc j) (all 0 (suc j) (omega arith))) (symbol_places p word some (λ k d lt. all (suc k) d (omega (arith, lt))))

pub none_read : (p : Problem) (word : List ℕ) → IsLawfulWord p word → 0 < place_count p → ReadsRoutes p word [] 0 word
none_read p word lawful some =
    record {
      is = refl;
      are_closed = tt;
      end = record { stops = lawful.prefix.stops; ends = lawful.closed };
      priced = refl;
      small = omega arith;
      places = symbol_places p word some lawful.prefix.known;
    }

pub one_route_more : (p : Problem) (word : List ℕ) (routes : List (List ℕ)) (cost : ℕ) (rest route behind : List ℕ) (more : ℕ) → ReadsRoutes p word routes cost rest
    → rest ≡ route ++ 0 ∷ behind → IsStops route → 0 < length route → IsWordEnd behind → more ≡ route_cost p route → more ≤ 1000000000 * (length route + 1)
    → ReadsRoutes p word (routes ++ route ∷ []) (cost + more) behind
one_route_more p word routes cost rest route behind more so_far is free some end priced small =
    let long : length rest ≡ length route + (length behind + 1) = ap length is ∙ length-append route (0 ∷ behind) ∙ (omega arith) in
    record {
      is = so_far.is ∙ ap (λ (w : List ℕ). word_of routes ++ w) (is ∙ sym (append_assoc route (0 ∷ []) behind))
          ∙ sym (append_assoc (word_of routes) (route ++ 0 ∷ []) behind)
          ∙ ap (λ (w : List ℕ). (word_of routes ++ w) ++ behind) (sym (append-nil (route ++ 0 ∷ [])))
          ∙ ap (λ (w : List ℕ). w ++ behind) (sym (word_of-append routes (route ∷ [])));
      are_closed = AreClosed-append routes (route ∷ []) so_far.are_closed (free, some, tt);
      end = end;
      priced = omega (arith, so_far.priced, priced, plan_cost_push p routes route);
      small = omega (arith, so_far.small, small, long);
      places = all_right (λ k. k < place_count p) (route ++ 0 ∷ []) behind (subst (All (λ k. k < place_count p)) (is ∙ sym (append_assoc route (0 ∷ []) behind)) so_far.places);
    }

no_more_routes : (routes : List (List ℕ)) → AreClosed routes → length routes ≤ length (concat routes)
no_more_routes [] are = omega arith
no_more_routes (route ∷ routes) are =
    let joined : length (route ++ concat routes) ≡ length route + length (concat routes) = length-append route (concat routes) in
    omega (arith, joined, no_more_routes routes are.2, are.1)

pub concat_length : (routes : List (List ℕ)) → AreClosed routes → (length (word_of routes) ≡ length (concat routes) + length routes) × (length routes ≤ length (concat routes))
concat_length routes are = (length_of_word routes, no_more_routes routes are)

-- a feasible word has at most two symbols for each customer
pub word_is_short : (p : Problem) (word : List ℕ) → IsProblem p → IsLawfulWord p word → length word ≤ 2400
word_is_short p word problem lawful =
    let plan = plan_of_word p word lawful in
    let are = closed_plan p plan.0 plan.2 in
    let count = concat_length plan.0 are in
    let served : length (concat plan.0) ≡ place_count p - 1 = sym (length_permutation (concat plan.0) (customers p) plan.2.served) ∙ length-range_with_len 1 (place_count p - 1) in
    let same : length word ≡ length (word_of plan.0) = ap length plan.1 in
    omega (arith, same, count.0, count.1, served, problem.few_places)

pub all_read : (p : Problem) (word : List ℕ) (routes : List (List ℕ)) (cost : ℕ) (rest : List ℕ) → ReadsRoutes p word routes cost rest → length rest ≡ 0 → word ≡ word_of routes
all_read p word routes cost rest so_far none =
    so_far.is ∙ ap (λ (w : List ℕ). word_of routes ++ w) (nil_from_length rest none) ∙ append-nil (word_of routes)
