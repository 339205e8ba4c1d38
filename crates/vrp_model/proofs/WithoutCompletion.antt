-- No feasible word begins with a partial plan without completion.
use Rattle.std.proofs.Common.{◌≡◌, ◌≢◌, ℕ, zero, suc, ◌-◌, ◌<◌, List, [], ◌∷◌, ◌++◌, length, get_or, refl, sym, ap, subst, ◌∙◌, inl, inr, append_assoc, append-nil, arith}
use Rattle.std.specs.List.{All, Contains}
use Rattle.std.specs.Prelude.{slice_index, slice_index_or}
use Rattle.std.proofs.lemmas.Bool.{cases_lt}
use Rattle.std.proofs.lemmas.List.Elements.{All-contains, All-contains_itself}
use Rattle.vrp_model.specs.Problem.{IsProblem, IsSymmetric, Problem, customers}
use Rattle.vrp_model.specs.Word.{BeginsWith, HasNoCompletion, IsPrefix, IsLawfulWord, IsOpen, last_route, last_symbol, served_in, unserved_in, word_of}
use Rattle.vrp_model.proofs.ChildCases.{cases_of_child}
use Rattle.vrp_model.proofs.PrefixesBefore.{prefixes_before}
use Rattle.vrp_model.proofs.PrefixWithSymbol.{closed_is_open, closed_runs_forward, last_of, last_of_shape, open_is_some, unserved_if_added}
use Rattle.vrp_model.proofs.LastRoute.{last_route_closed, last_route_with, last_symbol_with}
use Rattle.vrp_model.proofs.UnservedCustomers.{unserved_at_depot, unserved_before, unserved_differs, unserved_is_customer}
use Rattle.vrp_model.proofs.Words.{AreClosed, IsStops, last_is, routes_are, shape_of}

ends_as : (closed : List (List ℕ)) (stops : List ℕ) → AreClosed closed → IsStops stops → 0 < length stops → last_symbol (last_route (word_of closed ++ stops)) ≡ last_symbol (word_of closed ++ stops)
ends_as closed [] are free some = absurd (omega arith)
ends_as closed (stop ∷ stops) are free some =
    let last : last_route (word_of closed ++ (stop ∷ stops)) ≡ stop ∷ stops = ap (λ (rs : List (List ℕ)). slice_index_or rs (length rs - 1) []) (routes_are closed (stop ∷ stops) are free) ∙ last_of closed (stop ∷ stops) [] in
    ap last_symbol last ∙ last_is (stop ∷ stops) ∙ sym (last_of_shape closed (stop ∷ stops))

-- an open route ends where the prefix does
pub open_route_ends : (p : Problem) (prefix : List ℕ) → IsPrefix p prefix → IsOpen prefix → last_symbol (last_route prefix) ≡ last_symbol prefix
open_route_ends p prefix is_prefix is_open =
    let s = shape_of prefix is_prefix.stops in
    let some : 0 < length s.open_stops = open_is_some s.closed s.open_stops (subst (λ (w : List ℕ). 0 < last_symbol w) s.is is_open) in
    ap (λ (w : List ℕ). last_symbol (last_route w)) s.is ∙ ends_as s.closed s.open_stops s.are_closed s.are_stops some ∙ sym (ap last_symbol s.is)

-- the same word, with its next symbol in the prefix
moved_on : (p : Problem) (prefix more : List ℕ) (k : ℕ) → IsLawfulWord p (prefix ++ k ∷ more) → IsLawfulWord p ((prefix ++ k ∷ []) ++ more)
moved_on p prefix more k lawful = subst (IsLawfulWord p) (sym (append_assoc prefix (k ∷ []) more)) lawful

next_prefix : (p : Problem) (prefix more : List ℕ) (k : ℕ) → IsLawfulWord p (prefix ++ k ∷ more) → IsPrefix p (prefix ++ k ∷ [])
next_prefix p prefix more k lawful = prefixes_before p (prefix ++ k ∷ []) more (moved_on p prefix more k lawful).prefix

-- an open route that ends below its first customer, where all unserved customers are below it, is never closed
runs_back : (p : Problem) (first : ℕ) (prefix more : List ℕ) → IsSymmetric p → IsOpen prefix → slice_index (last_route prefix) 0 ≡ first → last_symbol prefix < first → All (λ k. k < first) (unserved_in p prefix) → IsLawfulWord p (prefix ++ more) → ⊥
runs_back p first prefix [] symmetric is_open starts ends below lawful = omega (arith, is_open, lawful.closed, ap last_symbol (append-nil prefix))
runs_back p first prefix (zero ∷ more) symmetric is_open starts ends below lawful =
    let after = next_prefix p prefix more 0 lawful in
    let forward = closed_runs_forward p prefix after symmetric in
    omega (arith, forward, starts, ends, open_route_ends p prefix (prefixes_before p prefix (0 ∷ []) after) is_open)
runs_back p first prefix (suc k ∷ more) symmetric is_open starts ends below lawful =
    let after = next_prefix p prefix more (suc k) lawful in
    let before = prefixes_before p prefix (suc k ∷ []) after in
    let longer = last_route_with prefix (suc k) before.stops (omega arith) in
    let low : suc k < first = All-contains (λ j. j < first) (unserved_in p prefix) (suc k) below (unserved_if_added p prefix (suc k) (omega arith) after) in
    let last : last_symbol (prefix ++ suc k ∷ []) ≡ suc k = last_symbol_with prefix (suc k) in
    runs_back p first (prefix ++ suc k ∷ []) more symmetric (omega (arith, last)) (longer.first is_open ∙ starts) (omega (arith, last, low))
    (λ i d lt. All-contains (λ j. j < first) (unserved_in p prefix) _ below (unserved_before p prefix (suc k) _ (All-contains_itself (unserved_in p (prefix ++ suc k ∷ [])) i d lt)))
    (moved_on p prefix more (suc k) lawful)

-- a word that leaves a customer unserved is not feasible
left_unserved : (p : Problem) (word : List ℕ) → 0 < length (unserved_in p word) → IsLawfulWord p word → ⊥
left_unserved p word some lawful =
    let here = All-contains_itself (unserved_in p word) 0 0 some in
    let served = All-contains (Contains (served_in word)) (customers p) _ lawful.every (unserved_is_customer p word _ here) in
    All-contains (λ other. other ≢ get_or (unserved_in p word) 0 0) (served_in word) _ (unserved_differs p word _ here) served refl

-- no route can be opened any more, and one must
none_opens : (p : Problem) (first : ℕ) (prefix more : List ℕ) → IsProblem p → last_symbol prefix ≡ 0 → slice_index (last_route prefix) 0 ≡ first → 0 < length (unserved_in p prefix) → All (λ k. k < first) (unserved_in p prefix) → IsLawfulWord p (prefix ++ more) → ⊥
none_opens p first prefix [] problem closed starts some below lawful = left_unserved p prefix some (subst (IsLawfulWord p) (append-nil prefix) lawful)
none_opens p first prefix (zero ∷ more) problem closed starts some below lawful = omega (arith, closed, closed_is_open p prefix (next_prefix p prefix more 0 lawful))
none_opens p first prefix (suc k ∷ more) problem closed starts some below lawful =
    let after = next_prefix p prefix more (suc k) lawful in
    let low : suc k < first = All-contains (λ j. j < first) (unserved_in p prefix) (suc k) below (unserved_if_added p prefix (suc k) (omega arith) after) in
    elim ((cases_of_child p prefix (suc k) problem (prefixes_before p prefix (suc k ∷ []) after)).0 after) [
      | inl depot ↦ omega (arith, depot.0)
      | inr (inl inside) ↦ omega (arith, inside.1, closed)
      | inr (inr behind) ↦ omega (arith, behind.2, starts, low)
    ]

some_left : (p : Problem) (first : ℕ) (prefix more : List ℕ) → IsProblem p → IsSymmetric p → IsOpen prefix → slice_index (last_route prefix) 0 ≡ first → 0 < length (unserved_in p prefix) → All (λ k. k < first) (unserved_in p prefix) → IsLawfulWord p (prefix ++ more) → ⊥
some_left p first prefix [] problem symmetric is_open starts some below lawful = left_unserved p prefix some (subst (IsLawfulWord p) (append-nil prefix) lawful)
some_left p first prefix (zero ∷ more) problem symmetric is_open starts some below lawful =
    let before = prefixes_before p prefix (0 ∷ []) (next_prefix p prefix more 0 lawful) in
    let same : unserved_in p (prefix ++ 0 ∷ []) ≡ unserved_in p prefix = unserved_at_depot p prefix in
    none_opens p first (prefix ++ 0 ∷ []) more problem (last_symbol_with prefix 0) (ap (λ (r : List ℕ). slice_index r 0) (last_route_closed prefix before.stops is_open) ∙ starts) (rw same some) (subst (All (λ k. k < first)) (sym same) below) (moved_on p prefix more 0 lawful)
some_left p first prefix (suc k ∷ more) problem symmetric is_open starts some below lawful =
    let after = next_prefix p prefix more (suc k) lawful in
    let before = prefixes_before p prefix (suc k ∷ []) after in
    let longer = last_route_with prefix (suc k) before.stops (omega arith) in
    let low : suc k < first = All-contains (λ j. j < first) (unserved_in p prefix) (suc k) below (unserved_if_added p prefix (suc k) (omega arith) after) in
    let last : last_symbol (prefix ++ suc k ∷ []) ≡ suc k = last_symbol_with prefix (suc k) in
    runs_back p first (prefix ++ suc k ∷ []) more symmetric (omega (arith, last)) (longer.first is_open ∙ starts) (omega (arith, last, low))
    (λ i d lt. All-contains (λ j. j < first) (unserved_in p prefix) _ below (unserved_before p prefix (suc k) _ (All-contains_itself (unserved_in p (prefix ++ suc k ∷ [])) i d lt)))
    (moved_on p prefix more (suc k) lawful)

-- no feasible word begins with a partial plan without completion
pub none_without_completion : (p : Problem) (prefix word : List ℕ) → IsProblem p → HasNoCompletion p prefix → IsLawfulWord p word → BeginsWith word prefix → ⊥
none_without_completion p prefix word problem no_completion lawful (more, is) =
    let whole = subst (IsLawfulWord p) is lawful in
    let first = slice_index (last_route prefix) 0 in
    elim no_completion.ends [
      | inr (is_open, ends) ↦ runs_back p first prefix more no_completion.symmetric is_open refl ends no_completion.below whole
      | inl some ↦ elim (cases_lt 0 (last_symbol prefix)) [
        | inr closed ↦ none_opens p first prefix more problem (omega (arith, closed)) refl some no_completion.below whole
        | inl is_open ↦ some_left p first prefix more problem no_completion.symmetric is_open refl some no_completion.below whole
      ]
    ]
