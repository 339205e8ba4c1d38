-- What a prefix begins with is a prefix, and a feasible word is under one child of each prefix that it goes on behind.
use Rattle.std.proofs.Common.{◌≡◌, ◌≢◌, ℕ, zero, suc, ◌+◌, ◌≤◌, ◌<◌, List, [], ◌∷◌, ◌++◌, length, length-append, sym, ap, subst, ◌∙◌, append_assoc, append-nil, arith}
use Rattle.std.specs.List.{All, AllPairs, Contains}
use Rattle.std.specs.List.Sorted.{IsStrictlyIncreasing}
use Rattle.std.specs.Prelude.{slice_index, not, ◌==◌}
use Rattle.std.proofs.Math.ListN.{get_or-append}
use Rattle.std.proofs.lemmas.List.Elements.{All-cons, All-nil, All-append, filter-append}
use Rattle.vrp_model.specs.Problem.{HasTrucks, IsSymmetric, Problem, customers}
use Rattle.vrp_model.specs.Route.{load_of}
use Rattle.vrp_model.specs.Word.{BeginsWith, IsPrefix, IsLawfulWord, RunsForward, TreeHasAtLeast, closed_routes, first_stops, last_route, routes_of, served_in, word_of}
use Rattle.vrp_model.proofs.Words.{AreClosed, HasStops-parts, IsStops, routes_are, shape_of}
use Rattle.vrp_model.proofs.PrefixWithSymbol.{All-last, All-left, closed_at_depot, closed_is_open, closed_with_customer, pairs_left, routes_at_depot, routes_with_stop}
use Rattle.vrp_model.proofs.ChildCases.{firsts_with}
use Rattle.vrp_model.proofs.CustomerPlaces.{load_with}
use Rattle.vrp_model.proofs.FewTrucks.{fewer_routes}

-- what a rising list begins with rises
pub rising_left : (xs ys : List ℕ) → IsStrictlyIncreasing (xs ++ ys) → IsStrictlyIncreasing xs
rising_left xs ys rising = λ i lt.
    let low : slice_index (xs ++ ys) i ≡ slice_index xs i = get_or-append xs ys 0 i (omega (arith, lt)) in
    let high : slice_index (xs ++ ys) (i + 1) ≡ slice_index xs (i + 1) = get_or-append xs ys 0 (i + 1) lt in
    omega (arith, low, high, rising i (omega (arith, lt, length-append xs ys)))

-- loads and first customers, where the last symbol is taken away
pub record RoutesFit (p : Problem) (word : List ℕ) : Type 0 where
  pub fits : All (λ r. load_of p r ≤ p.capacity) (routes_of word)
  pub rising : IsStrictlyIncreasing (first_stops (routes_of word))
  pub few : HasTrucks p (length (routes_of word))

from_routes : (p : Problem) (word : List ℕ) (routes : List (List ℕ)) → routes_of word ≡ routes → All (λ r. load_of p r ≤ p.capacity) routes → IsStrictlyIncreasing (first_stops routes) → HasTrucks p (length routes) → RoutesFit p word
from_routes p word routes is fits rising few =
    record {
      fits = subst (All (λ r. load_of p r ≤ p.capacity)) (sym is) fits;
      rising = subst (λ (rs : List (List ℕ)). IsStrictlyIncreasing (first_stops rs)) (sym is) rising;
      few = subst (λ (rs : List (List ℕ)). HasTrucks p (length rs)) (sym is) few;
    }

routes_before : (p : Problem) (prefix : List ℕ) (k : ℕ) (closed : List (List ℕ)) (stops : List ℕ) → prefix ≡ word_of closed ++ stops → AreClosed closed → IsStops stops → 0 < k → IsPrefix p (prefix ++ k ∷ []) → RoutesFit p prefix
routes_before p prefix k closed [] is are free some after =
    let routes : routes_of prefix ≡ closed = ap routes_of is ∙ routes_are closed [] are free ∙ append-nil closed in
    let new : routes_of (prefix ++ k ∷ []) ≡ closed ++ (k ∷ []) ∷ [] = ap (λ (w : List ℕ). routes_of (w ++ k ∷ [])) is ∙ routes_with_stop closed [] k are free some in
    let rising = subst IsStrictlyIncreasing (firsts_with closed (k ∷ [])) (subst (λ (rs : List (List ℕ)). IsStrictlyIncreasing (first_stops rs)) new after.rising) in
    from_routes p prefix closed routes
    (All-left (λ r. load_of p r ≤ p.capacity) closed ((k ∷ []) ∷ []) (subst (All (λ r. load_of p r ≤ p.capacity)) new after.fits))
    (rising_left (first_stops closed) (k ∷ []) rising)
    (fewer_routes p (length closed) (length (closed ++ (k ∷ []) ∷ [])) (omega (arith, length-append closed ((k ∷ []) ∷ []))) (subst (λ (rs : List (List ℕ)). HasTrucks p (length rs)) new after.few))
routes_before p prefix k closed (stop ∷ stops) is are free some after =
    let routes : routes_of prefix ≡ closed ++ (stop ∷ stops) ∷ [] = ap routes_of is ∙ routes_are closed (stop ∷ stops) are free in
    let new : routes_of (prefix ++ k ∷ []) ≡ closed ++ ((stop ∷ stops) ++ k ∷ []) ∷ [] = ap (λ (w : List ℕ). routes_of (w ++ k ∷ [])) is ∙ routes_with_stop closed (stop ∷ stops) k are free some in
    let fits = subst (All (λ r. load_of p r ≤ p.capacity)) new after.fits in
    let heavy : load_of p ((stop ∷ stops) ++ k ∷ []) ≤ p.capacity = All-last (λ r. load_of p r ≤ p.capacity) closed ((stop ∷ stops) ++ k ∷ []) fits in
    let light : load_of p (stop ∷ stops) ≤ p.capacity = omega (arith, heavy, load_with p (stop ∷ stops) k) in
    let same : first_stops (closed ++ ((stop ∷ stops) ++ k ∷ []) ∷ []) ≡ first_stops (closed ++ (stop ∷ stops) ∷ []) = firsts_with closed ((stop ∷ stops) ++ k ∷ []) ∙ sym (firsts_with closed (stop ∷ stops)) in
    from_routes p prefix (closed ++ (stop ∷ stops) ∷ []) routes
    (All-append (λ r. load_of p r ≤ p.capacity) closed ((stop ∷ stops) ∷ []) (All-left (λ r. load_of p r ≤ p.capacity) closed (((stop ∷ stops) ++ k ∷ []) ∷ []) fits) (All-cons (λ r. load_of p r ≤ p.capacity) (stop ∷ stops) [] light (All-nil (λ r. load_of p r ≤ p.capacity))))
    (subst IsStrictlyIncreasing same (subst (λ (rs : List (List ℕ)). IsStrictlyIncreasing (first_stops rs)) new after.rising))
    (fewer_routes p (length (closed ++ (stop ∷ stops) ∷ [])) (length (closed ++ ((stop ∷ stops) ++ k ∷ []) ∷ [])) (omega (arith, length-append closed ((stop ∷ stops) ∷ []), length-append closed (((stop ∷ stops) ++ k ∷ []) ∷ []))) (subst (λ (rs : List (List ℕ)). HasTrucks p (length rs)) new after.few))

routes_before_depot : (p : Problem) (prefix : List ℕ) → IsPrefix p (prefix ++ 0 ∷ []) → RoutesFit p prefix
routes_before_depot p prefix after =
    let same = routes_at_depot prefix (HasStops-parts 0 prefix (0 ∷ []) after.stops).0 (closed_is_open p prefix after) in
    from_routes p prefix (routes_of (prefix ++ 0 ∷ [])) (sym same) after.fits after.rising after.few

routes_fit : (p : Problem) (prefix : List ℕ) (k : ℕ) → IsPrefix p (prefix ++ k ∷ []) → RoutesFit p prefix
routes_fit p prefix zero after = routes_before_depot p prefix after
routes_fit p prefix (suc k) after =
    let s = shape_of prefix (HasStops-parts 0 prefix (suc k ∷ []) after.stops).0 in
    routes_before p prefix (suc k) s.closed s.open_stops s.is s.are_closed s.are_stops (omega arith) after

-- the closed routes of a prefix were closed before its last symbol, or it closes the last of them
forward_before : (p : Problem) (prefix : List ℕ) (k : ℕ) → IsPrefix p (prefix ++ k ∷ []) → IsSymmetric p → All RunsForward (closed_routes prefix)
forward_before p prefix zero after symmetric =
    let has = (HasStops-parts 0 prefix (0 ∷ []) after.stops).0 in
    All-left RunsForward (closed_routes prefix) (last_route prefix ∷ []) (subst (All RunsForward) (closed_at_depot prefix has (closed_is_open p prefix after)) (after.forward symmetric))
forward_before p prefix (suc k) after symmetric =
    subst (All RunsForward) (closed_with_customer prefix (suc k) (HasStops-parts 0 prefix (suc k ∷ []) after.stops).0 (omega arith)) (after.forward symmetric)

prefix_before : (p : Problem) (prefix : List ℕ) (k : ℕ) → IsPrefix p (prefix ++ k ∷ []) → IsPrefix p prefix
prefix_before p prefix k after =
    let routes = routes_fit p prefix k after in
    let served : served_in (prefix ++ k ∷ []) ≡ served_in prefix ++ served_in (k ∷ []) = filter-append (λ n. not (n == 0)) prefix (k ∷ []) in
    record {
      known = All-left (Contains (customers p)) (served_in prefix) (served_in (k ∷ [])) (subst (All (Contains (customers p))) served after.known);
      once = pairs_left (λ a b. a ≢ b) (served_in prefix) (served_in (k ∷ [])) (subst (AllPairs (λ a b. a ≢ b)) served after.once);
      stops = (HasStops-parts 0 prefix (k ∷ []) after.stops).0;
      fits = routes.fits;
      rising = routes.rising;
      few = routes.few;
      forward = forward_before p prefix k after;
    }

-- what a prefix begins with is a prefix
pub prefixes_before : (p : Problem) (prefix more : List ℕ) → IsPrefix p (prefix ++ more) → IsPrefix p prefix
prefixes_before p prefix [] is_prefix = subst (IsPrefix p) (append-nil prefix) is_prefix
prefixes_before p prefix (k ∷ more) is_prefix =
    prefix_before p prefix k (prefixes_before p (prefix ++ k ∷ []) more (subst (IsPrefix p) (sym (append_assoc prefix (k ∷ []) more)) is_prefix))

-- what goes on behind the same prefix
pub same_prefix : (prefix xs ys : List ℕ) → prefix ++ xs ≡ prefix ++ ys → xs ≡ ys
same_prefix [] xs ys e = e
same_prefix (symbol ∷ prefix) xs ys e = same_prefix prefix xs ys (cc)

child_behind : (p : Problem) (prefix word rest : List ℕ) → IsLawfulWord p word → word ≡ prefix ++ rest → word ≢ prefix
    → (k : ℕ) × IsPrefix p (prefix ++ k ∷ []) × BeginsWith word (prefix ++ k ∷ []) × ((j : ℕ) → BeginsWith word (prefix ++ j ∷ []) → j ≡ k)
child_behind p prefix word [] lawful is longer = absurd (longer (is ∙ append-nil prefix))
child_behind p prefix word (k ∷ rest) lawful is longer =
    let whole : word ≡ (prefix ++ k ∷ []) ++ rest = is ∙ sym (append_assoc prefix (k ∷ []) rest) in (
      k,
      prefixes_before p (prefix ++ k ∷ []) rest (subst (IsPrefix p) whole lawful.prefix),
      (rest, whole),
      λ j other.
          let e : k ∷ rest ≡ j ∷ other.0 = same_prefix prefix (k ∷ rest) (j ∷ other.0) (sym is ∙ other.1 ∙ append_assoc prefix (j ∷ []) other.0) in
          cc,
    )

-- a feasible word that goes on behind a prefix is under one of its children
pub one_child_behind : (p : Problem) (prefix word : List ℕ) → IsPrefix p prefix → IsLawfulWord p word → BeginsWith word prefix → word ≢ prefix
    → (k : ℕ) × IsPrefix p (prefix ++ k ∷ []) × BeginsWith word (prefix ++ k ∷ []) × ((j : ℕ) → BeginsWith word (prefix ++ j ∷ []) → j ≡ k)
one_child_behind p prefix word is_prefix lawful begins longer = child_behind p prefix word begins.0 lawful begins.1 longer

begins_too : (prefix longer word : List ℕ) → BeginsWith longer prefix → BeginsWith word longer → BeginsWith word prefix
begins_too prefix longer word first second =
    (first.0 ++ second.0, second.1 ∙ ap (λ (xs : List ℕ). xs ++ second.0) first.1 ∙ append_assoc prefix first.0 second.0)

-- the tree of a longer prefix is no larger
pub longer_tree : (p : Problem) (prefix longer : List ℕ) (n : ℕ) → BeginsWith longer prefix → TreeHasAtLeast p longer n → TreeHasAtLeast p prefix n
longer_tree p prefix longer n begins tree =
    (tree.0, tree.1, λ i d lt. (let one = tree.2 i d lt in (one.0, begins_too prefix longer _ begins one.1)), tree.3)
