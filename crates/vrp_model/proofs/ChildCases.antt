-- A symbol makes a child of a prefix in three cases, and in no other.
use Rattle.std.proofs.Common.{◌≡◌, ℕ, zero, suc, ◌+◌, ◌-◌, ◌≤◌, ◌<◌, List, [], ◌∷◌, ◌++◌, length, length-append, refl, sym, ap, subst, ◌∙◌, inl, inr, append-nil, arith}
use Rattle.std.specs.List.{All}
use Rattle.std.specs.List.Sorted.{IsStrictlyIncreasing}
use Rattle.std.specs.Prelude.{slice_index, slice_index_or, ◌↔◌}
use Rattle.std.proofs.lemmas.List.{get_or-map, length-map, map-append}
use Rattle.std.proofs.lemmas.List.Elements.{All-cons, All-nil, All-append}
use Rattle.vrp_model.specs.Problem.{HasTrucks, Problem, IsProblem, demand_of}
use Rattle.vrp_model.specs.Route.{load_of}
use Rattle.vrp_model.specs.Word.{IsPrefix, IsOpen, MakesChild, first_stops, last_route, last_symbol, routes_of, word_of}
use Rattle.vrp_model.proofs.Words.{AreClosed, IsStops, routes_are, shape_of}
use Rattle.vrp_model.proofs.PrefixWithSymbol.{All-last, All-left, closed_is_open, closed_runs_forward, customer_added, prefix_closed, last_of, last_of_shape, last_stop, rising_last, rising_more, routes_with_stop, unserved_if_added}
use Rattle.vrp_model.proofs.CustomerPlaces.{customer_is_some, load_with}
use Rattle.vrp_model.proofs.UnservedCustomers.{unserved_is_customer}

-- the first customers of some routes and one more
pub firsts_with : (closed : List (List ℕ)) (route : List ℕ) → first_stops (closed ++ route ∷ []) ≡ first_stops closed ++ slice_index route 0 ∷ []
firsts_with closed route = map-append (λ r. slice_index r 0) closed (route ∷ [])

last_first : (routes : List (List ℕ)) → 0 < length routes → slice_index (first_stops routes) (length (first_stops routes) - 1) ≡ slice_index (slice_index_or routes (length routes - 1) []) 0
last_first routes some =
    let count : length (first_stops routes) ≡ length routes = length-map routes (λ r. slice_index r 0) in
    ap (λ n. slice_index (first_stops routes) (n - 1)) count ∙ get_or-map (λ r. slice_index r 0) routes (length routes - 1) [] 0 (omega arith)

below_last : (closed : List (List ℕ)) (k : ℕ) → 0 < k → IsStrictlyIncreasing (first_stops closed ++ k ∷ []) → slice_index (slice_index_or closed (length closed - 1) []) 0 < k
below_last [] k some rising = some
below_last (route ∷ routes) k some rising =
    let below = rising_last (first_stops (route ∷ routes)) k rising (omega arith) in
    omega (arith, below, last_first (route ∷ routes) (omega arith))

above_last : (closed : List (List ℕ)) (k : ℕ) → 0 < length (first_stops closed) → slice_index (slice_index_or closed (length closed - 1) []) 0 < k → slice_index (first_stops closed) (length (first_stops closed) - 1) < k
above_last closed k some above = omega (arith, above, last_first closed (omega (arith, some, length-map closed (λ r. slice_index r 0))))

-- where no route is open
closed_cases : (p : Problem) (prefix : List ℕ) (k : ℕ) (closed : List (List ℕ)) → prefix ≡ word_of closed ++ [] → AreClosed closed → IsProblem p → IsPrefix p prefix → 0 < k → IsPrefix p (prefix ++ k ∷ []) ↔ MakesChild p prefix k
closed_cases p prefix k closed is are problem is_prefix some =
    let none : IsStops [] = All-nil _ in
    let routes : routes_of prefix ≡ closed = ap routes_of is ∙ routes_are closed [] are none ∙ append-nil closed in
    let new : routes_of (prefix ++ k ∷ []) ≡ closed ++ (k ∷ []) ∷ [] = ap (λ (w : List ℕ). routes_of (w ++ k ∷ [])) is ∙ routes_with_stop closed [] k are none some in
    let at_depot : last_symbol prefix ≡ 0 = ap last_symbol is ∙ last_of_shape closed [] in
    let last : last_route prefix ≡ slice_index_or closed (length closed - 1) [] = ap (λ (rs : List (List ℕ)). slice_index_or rs (length rs - 1) []) routes in
    let count : length (closed ++ (k ∷ []) ∷ []) ≡ length (routes_of prefix) + 1 = length-append closed ((k ∷ []) ∷ []) ∙ ap (λ (rs : List (List ℕ)). length rs + 1) (sym routes) in
    let Fits : List (List ℕ) → Type 0 = All (λ r. load_of p r ≤ p.capacity) in
    let Rises : List (List ℕ) → Type 0 = λ rs. IsStrictlyIncreasing (first_stops rs) in (
      λ child.
          let rising = subst IsStrictlyIncreasing (firsts_with closed (k ∷ [])) (subst Rises new child.rising) in
          let trucks = subst (λ n. HasTrucks p n) count (subst (λ (rs : List (List ℕ)). HasTrucks p (length rs)) new child.few) in
          inr (inr (unserved_if_added p prefix k some child, at_depot, rw last (below_last closed k some rising), trucks)),
      λ made. elim made [
        | inl depot ↦ absurd (omega (arith, depot.0, some))
        | inr (inl inside) ↦ absurd (omega (arith, inside.1, at_depot))
        | inr (inr behind) ↦
            let above = subst (λ (r : List ℕ). slice_index r 0 < k) last behind.2 in
            let light : load_of p (k ∷ []) ≤ p.capacity = omega (arith, problem.fitting_demands k) in
            customer_added p prefix k (closed ++ (k ∷ []) ∷ []) is_prefix behind.0 new
            (All-append (λ r. load_of p r ≤ p.capacity) closed ((k ∷ []) ∷ []) (subst Fits routes is_prefix.fits) (All-cons (λ r. load_of p r ≤ p.capacity) (k ∷ []) [] light (All-nil (λ r. load_of p r ≤ p.capacity))))
            (subst IsStrictlyIncreasing (sym (firsts_with closed (k ∷ []))) (rising_more (first_stops closed) k (subst Rises routes is_prefix.rising) (λ lt. above_last closed k lt above)))
            (subst (λ n. HasTrucks p n) (sym count) behind.3)
      ],
    )

-- where a route is open
open_cases : (p : Problem) (prefix : List ℕ) (k : ℕ) (closed : List (List ℕ)) (stop : ℕ) (stops : List ℕ) → prefix ≡ word_of closed ++ (stop ∷ stops) → AreClosed closed → IsStops (stop ∷ stops) → IsPrefix p prefix → 0 < k → IsPrefix p (prefix ++ k ∷ []) ↔ MakesChild p prefix k
open_cases p prefix k closed stop stops is are free is_prefix some =
    let routes : routes_of prefix ≡ closed ++ (stop ∷ stops) ∷ [] = ap routes_of is ∙ routes_are closed (stop ∷ stops) are free in
    let new : routes_of (prefix ++ k ∷ []) ≡ closed ++ ((stop ∷ stops) ++ k ∷ []) ∷ [] = ap (λ (w : List ℕ). routes_of (w ++ k ∷ [])) is ∙ routes_with_stop closed (stop ∷ stops) k are free some in
    let is_open : IsOpen prefix = rw is (rw (last_of_shape closed (stop ∷ stops)) (last_stop 0 (stop ∷ stops) free (omega arith))) in
    let last : last_route prefix ≡ stop ∷ stops = ap (λ (rs : List (List ℕ)). slice_index_or rs (length rs - 1) []) routes ∙ last_of closed (stop ∷ stops) [] in
    let Fits : List (List ℕ) → Type 0 = All (λ r. load_of p r ≤ p.capacity) in
    let Rises : List (List ℕ) → Type 0 = λ rs. IsStrictlyIncreasing (first_stops rs) in
    let load : load_of p ((stop ∷ stops) ++ k ∷ []) ≡ load_of p (last_route prefix) + demand_of p k = rw last (load_with p (stop ∷ stops) k) in
    let same : first_stops (closed ++ ((stop ∷ stops) ++ k ∷ []) ∷ []) ≡ first_stops (closed ++ (stop ∷ stops) ∷ []) = firsts_with closed ((stop ∷ stops) ++ k ∷ []) ∙ sym (firsts_with closed (stop ∷ stops)) in (
      λ child.
          let light : load_of p ((stop ∷ stops) ++ k ∷ []) ≤ p.capacity = All-last (λ r. load_of p r ≤ p.capacity) closed ((stop ∷ stops) ++ k ∷ []) (subst Fits new child.fits) in
          inr (inl (unserved_if_added p prefix k some child, is_open, omega (arith, load, light))),
      λ made. elim made [
        | inl depot ↦ absurd (omega (arith, depot.0, some))
        | inr (inr behind) ↦ absurd (omega (arith, behind.1, is_open))
        | inr (inl inside) ↦
            let light : load_of p ((stop ∷ stops) ++ k ∷ []) ≤ p.capacity = omega (arith, load, inside.2) in
            let before = All-left (λ r. load_of p r ≤ p.capacity) closed ((stop ∷ stops) ∷ []) (subst Fits routes is_prefix.fits) in
            customer_added p prefix k (closed ++ ((stop ∷ stops) ++ k ∷ []) ∷ []) is_prefix inside.0 new
            (All-append (λ r. load_of p r ≤ p.capacity) closed (((stop ∷ stops) ++ k ∷ []) ∷ []) before (All-cons (λ r. load_of p r ≤ p.capacity) ((stop ∷ stops) ++ k ∷ []) [] light (All-nil (λ r. load_of p r ≤ p.capacity))))
            (subst IsStrictlyIncreasing (sym same) (subst Rises routes is_prefix.rising))
            (subst (λ n. HasTrucks p n) (length-append closed ((stop ∷ stops) ∷ []) ∙ sym (length-append closed (((stop ∷ stops) ++ k ∷ []) ∷ []))) (subst (λ (rs : List (List ℕ)). HasTrucks p (length rs)) routes is_prefix.few))
      ],
    )

by_shape : (p : Problem) (prefix : List ℕ) (k : ℕ) (closed : List (List ℕ)) (stops : List ℕ) → prefix ≡ word_of closed ++ stops → AreClosed closed → IsStops stops → IsProblem p → IsPrefix p prefix → 0 < k → IsPrefix p (prefix ++ k ∷ []) ↔ MakesChild p prefix k
by_shape p prefix k closed [] is are free problem is_prefix some = closed_cases p prefix k closed is are problem is_prefix some
by_shape p prefix k closed (stop ∷ stops) is are free problem is_prefix some = open_cases p prefix k closed stop stops is are free is_prefix some

-- a symbol makes a child in three cases, and in no other
pub cases_of_child : (p : Problem) (prefix : List ℕ) (k : ℕ) → IsProblem p → IsPrefix p prefix → IsPrefix p (prefix ++ k ∷ []) ↔ MakesChild p prefix k
cases_of_child p prefix zero problem is_prefix = (
  λ child. inl (refl, closed_is_open p prefix child, closed_runs_forward p prefix child),
  λ made. elim made [
    | inl depot ↦ prefix_closed p prefix is_prefix depot.1 depot.2
    | inr (inl inside) ↦ absurd (omega (arith, customer_is_some p 0 (unserved_is_customer p prefix 0 inside.0)))
    | inr (inr behind) ↦ absurd (omega (arith, behind.2))
  ],
)
cases_of_child p prefix (suc k) problem is_prefix =
    let s = shape_of prefix is_prefix.stops in
    by_shape p prefix (suc k) s.closed s.open_stops s.is s.are_closed s.are_stops problem is_prefix (omega arith)
