-- The last route of a prefix with one more symbol.
use Rattle.std.proofs.Common.{◌≡◌, ℕ, ◌+◌, ◌-◌, ◌<◌, ◌≤◌, ◌==◌, inl, inr, false, List, [], ◌∷◌, ◌++◌, length, length-append, append-nil, refl, sym, ap, ◌∙◌, arith}
use Rattle.std.proofs.lemmas.Bool.Decides.{nat_tests}
use Rattle.std.specs.Prelude.{slice_index, slice_index_or}
use Rattle.vrp_model.specs.Prefix.{open_load}
use Rattle.vrp_model.specs.Problem.{IsProblem, Problem, demand_of}
use Rattle.vrp_model.specs.Route.{load_of}
use Rattle.vrp_model.specs.Word.{HasStops, IsPrefix, IsOpen, MakesChild, last_route, last_symbol, routes_of, word_of}
use Rattle.vrp_model.proofs.ChildCases.{cases_of_child}
use Rattle.vrp_model.proofs.Words.{AreClosed, IsStops, last_behind-append, last_is, routes_are, shape_of}
use Rattle.vrp_model.proofs.PrefixWithSymbol.{last_of, last_of_shape, last_stop, routes_at_depot, routes_with_stop}
use Rattle.vrp_model.proofs.CustomerPlaces.{load_with}

-- the last symbol of a word with one more
pub last_symbol_with : (word : List ℕ) (k : ℕ) → last_symbol (word ++ k ∷ []) ≡ k
last_symbol_with word k = last_is (word ++ k ∷ []) ∙ last_behind-append 0 word (k ∷ [])

-- behind the depot the last route stays
pub last_route_closed : (word : List ℕ) → HasStops 0 word → IsOpen word → last_route (word ++ 0 ∷ []) ≡ last_route word
last_route_closed word has is_open = ap (λ (rs : List (List ℕ)). slice_index_or rs (length rs - 1) []) (routes_at_depot word has is_open)

-- the first customer of the last route, where a customer is added behind the depot, or behind a customer
pub record LastRouteWith (word : List ℕ) (k : ℕ) : Type 0 where
  pub starts : last_symbol word ≡ 0 → last_route (word ++ k ∷ []) ≡ k ∷ []
  pub grows : 0 < last_symbol word → last_route (word ++ k ∷ []) ≡ last_route word ++ k ∷ []
  pub first : 0 < last_symbol word → slice_index (last_route (word ++ k ∷ [])) 0 ≡ slice_index (last_route word) 0

by_shape : (word : List ℕ) (k : ℕ) (closed : List (List ℕ)) (stops : List ℕ) → word ≡ word_of closed ++ stops → AreClosed closed → IsStops stops → 0 < k → LastRouteWith word k
by_shape word k closed [] is are free some =
    let new : routes_of (word ++ k ∷ []) ≡ closed ++ (k ∷ []) ∷ [] = ap (λ (w : List ℕ). routes_of (w ++ k ∷ [])) is ∙ routes_with_stop closed [] k are free some in
    let at_depot : last_symbol word ≡ 0 = ap last_symbol is ∙ last_of_shape closed [] in
    record {
      starts = λ _. ap (λ (rs : List (List ℕ)). slice_index_or rs (length rs - 1) []) new ∙ last_of closed (k ∷ []) [];
      grows = λ lt. absurd (omega (arith, lt, at_depot));
      first = λ lt. absurd (omega (arith, lt, at_depot));
    }
by_shape word k closed (stop ∷ stops) is are free some =
    let routes : routes_of word ≡ closed ++ (stop ∷ stops) ∷ [] = ap routes_of is ∙ routes_are closed (stop ∷ stops) are free in
    let last : last_route word ≡ stop ∷ stops = ap (λ (rs : List (List ℕ)). slice_index_or rs (length rs - 1) []) routes ∙ last_of closed (stop ∷ stops) [] in
    let new : routes_of (word ++ k ∷ []) ≡ closed ++ ((stop ∷ stops) ++ k ∷ []) ∷ [] = ap (λ (w : List ℕ). routes_of (w ++ k ∷ [])) is ∙ routes_with_stop closed (stop ∷ stops) k are free some in
    let longer : last_route (word ++ k ∷ []) ≡ (stop ∷ stops) ++ k ∷ [] = ap (λ (rs : List (List ℕ)). slice_index_or rs (length rs - 1) []) new ∙ last_of closed ((stop ∷ stops) ++ k ∷ []) [] in
    let is_open : 0 < last_symbol word = rw is (rw (last_of_shape closed (stop ∷ stops)) (last_stop 0 (stop ∷ stops) free (omega arith))) in
    record {
      starts = λ none. absurd (omega (arith, none, is_open));
      grows = λ _. longer ∙ ap (λ (xs : List ℕ). xs ++ k ∷ []) (sym last);
      first = λ _. ap (λ (xs : List ℕ). slice_index xs 0) longer ∙ ap (λ (xs : List ℕ). slice_index xs 0) (sym last);
    }

-- the last route of a word with a customer more
pub last_route_with : (word : List ℕ) (k : ℕ) → HasStops 0 word → 0 < k → LastRouteWith word k
last_route_with word k has some =
    let s = shape_of word has in
    by_shape word k s.closed s.open_stops s.is s.are_closed s.are_stops some

-- ---- how many routes there are

-- where a customer is added behind the depot, or behind a customer
pub record RoutesWith (word : List ℕ) (k : ℕ) : Type 0 where
  pub starts : last_symbol word ≡ 0 → length (routes_of (word ++ k ∷ [])) ≡ length (routes_of word) + 1
  pub stays : 0 < last_symbol word → length (routes_of (word ++ k ∷ [])) ≡ length (routes_of word)

count_by_shape : (word : List ℕ) (k : ℕ) (closed : List (List ℕ)) (stops : List ℕ) → word ≡ word_of closed ++ stops → AreClosed closed → IsStops stops → 0 < k → RoutesWith word k
count_by_shape word k closed [] is are free some =
    let before : length (routes_of word) ≡ length closed = ap (λ (w : List ℕ). length (routes_of w)) is ∙ ap length (routes_are closed [] are free) ∙ ap length (append-nil closed) in
    let new : length (routes_of (word ++ k ∷ [])) ≡ length closed + 1 = ap (λ (w : List ℕ). length (routes_of (w ++ k ∷ []))) is ∙ ap length (routes_with_stop closed [] k are free some) ∙ length-append closed ((k ∷ []) ∷ []) in
    let at_depot : last_symbol word ≡ 0 = ap last_symbol is ∙ last_of_shape closed [] in
    record { starts = λ _. omega (arith, before, new); stays = λ lt. absurd (omega (arith, lt, at_depot)) }
count_by_shape word k closed (stop ∷ stops) is are free some =
    let before : length (routes_of word) ≡ length closed + 1 = ap (λ (w : List ℕ). length (routes_of w)) is ∙ ap length (routes_are closed (stop ∷ stops) are free) ∙ length-append closed ((stop ∷ stops) ∷ []) in
    let new : length (routes_of (word ++ k ∷ [])) ≡ length closed + 1 = ap (λ (w : List ℕ). length (routes_of (w ++ k ∷ []))) is ∙ ap length (routes_with_stop closed (stop ∷ stops) k are free some) ∙ length-append closed (((stop ∷ stops) ++ k ∷ []) ∷ []) in
    let is_open : 0 < last_symbol word = rw is (rw (last_of_shape closed (stop ∷ stops)) (last_stop 0 (stop ∷ stops) free (omega arith))) in
    record { starts = λ none. absurd (omega (arith, none, is_open)); stays = λ _. omega (arith, before, new) }

-- the routes of a word with a customer more
pub routes_with : (word : List ℕ) (k : ℕ) → HasStops 0 word → 0 < k → RoutesWith word k
routes_with word k has some =
    let s = shape_of word has in
    count_by_shape word k s.closed s.open_stops s.is s.are_closed s.are_stops some

-- ---- what is on the truck of the open route

-- no load where no route is open
pub load_at_depot : (p : Problem) (word : List ℕ) → last_symbol word ≡ 0 → open_load p word ≡ 0
load_at_depot p word at_depot = rw at_depot refl

-- the load of the open route
pub load_at_customer : (p : Problem) (word : List ℕ) → 0 < last_symbol word → open_load p word ≡ load_of p (last_route word)
load_at_customer p word is_open = let test : (last_symbol word == 0) ≡ false = grind (arith, nat_tests) in rw test refl

-- with a customer more
pub record LoadWith (p : Problem) (word : List ℕ) (k : ℕ) : Type 0 where
  pub starts : last_symbol word ≡ 0 → open_load p (word ++ k ∷ []) ≡ demand_of p k
  pub grows : 0 < last_symbol word → open_load p (word ++ k ∷ []) ≡ open_load p word + demand_of p k
  pub fits : open_load p (word ++ k ∷ []) ≤ p.capacity

load_by_case : (p : Problem) (word : List ℕ) (k : ℕ) → IsProblem p → IsPrefix p word → 0 < k → MakesChild p word k → LoadWith p word k
load_by_case p word k problem prefix some made =
    let with_stop = last_route_with word k prefix.stops some in
    let is_open : 0 < last_symbol (word ++ k ∷ []) = rw (last_symbol_with word k) some in
    let now : open_load p (word ++ k ∷ []) ≡ load_of p (last_route (word ++ k ∷ [])) = load_at_customer p (word ++ k ∷ []) is_open in
    let one : load_of p (k ∷ []) ≡ demand_of p k = omega arith in
    let starts : last_symbol word ≡ 0 → open_load p (word ++ k ∷ []) ≡ demand_of p k = λ none. now ∙ ap (load_of p) (with_stop.starts none) ∙ one in
    let grows : 0 < last_symbol word → open_load p (word ++ k ∷ []) ≡ load_of p (last_route word) + demand_of p k = λ open_now. now ∙ ap (load_of p) (with_stop.grows open_now) ∙ load_with p (last_route word) k in
    record {
      starts = starts;
      grows = λ open_now. omega (arith, grows open_now, load_at_customer p word open_now);
      fits = elim made [
        | inl depot ↦ absurd (omega (arith, depot.0, some))
        | inr (inl inside) ↦ omega (arith, grows inside.1, inside.2)
        | inr (inr behind) ↦ omega (arith, starts behind.1, problem.fitting_demands k)
      ];
    }

-- the load with a customer more
pub load_with_customer : (p : Problem) (word : List ℕ) (k : ℕ) → IsProblem p → IsPrefix p word → 0 < k → IsPrefix p (word ++ k ∷ []) → LoadWith p word k
load_with_customer p word k problem prefix some after = load_by_case p word k problem prefix some ((cases_of_child p word k problem prefix).0 after)
