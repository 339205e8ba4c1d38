-- A grid of distances, written row by row.
use Rattle.std.proofs.Common.{◌≡◌, ℕ, ◌+◌, ◌-◌, ◌*◌, ◌<◌, ◌≤◌, ℤ, List, [], ◌∷◌, ◌++◌, length, get_or, inl, inr, sym, ◌∙◌, arith}
use Rattle.std.proofs.lemmas.Nat.{mul-le, mul-add-lt, same_from_place}
use Rattle.std.proofs.lemmas.Bool.{cases_lt}
use Rattle.std.proofs.lemmas.List.{get_or_append_left, get_or_push, length_push}
use Rattle.std.proofs.lemmas.Option.{get_or_from_slice_get, slice_get_within}
use Rattle.vrp_model.specs.declared.metric.Metric.{Metric}
use Rattle.vrp_model.specs.Distance.{IsDistance}
use Rattle.vrp_model.specs.Grid.{HasDistances}
use Rattle.vrp_model.specs.Inner.Rows.{AreDistances, IsDistanceAt}
use Rattle.vrp_model.proofs.Distances.{IsDistance-both_ways}
use Rattle.vrp_model.proofs.BoundedLists.{bounded_push}

-- the place of a pair left of the diagonal comes after that of the pair turned round
pub place_before : (i j n : ℕ) → i < j → j < n → i * n + j < j * n + i
place_before i j n p q = omega (arith, mul-le (i + 1) n j n (omega arith) (omega arith))

pub IsDistanceAt-turned : (metric : Metric) (points : List (ℤ × ℤ)) (i j weight : ℕ) → IsDistanceAt metric points i j weight → IsDistanceAt metric points j i weight
IsDistanceAt-turned metric points i j weight h = λ from to a b. IsDistance-both_ways metric to from weight (h to from b a)

-- the two points as they are read by index
pub IsDistanceAt-read : (metric : Metric) (points : List (ℤ × ℤ)) (i j weight : ℕ) (d e : ℤ × ℤ) → IsDistance metric (get_or points i d) (get_or points j e) weight → IsDistanceAt metric points i j weight
IsDistanceAt-read metric points i j weight d e h =
    λ from to a b. rw (← get_or_from_slice_get points i from d a, ← get_or_from_slice_get points j to e b) h

-- one entry more, at the next place
pub AreDistances-push : (metric : Metric) (points : List (ℤ × ℤ)) (entries : List ℕ) (row column weight : ℕ) → length entries ≡ row * length points + column → column < length points → IsDistanceAt metric points row column weight → weight ≤ 1000000000 → AreDistances metric points entries → AreDistances metric points (entries ++ weight ∷ [])
AreDistances-push metric points entries row column weight next within distance small so_far = record {
  each = λ i j inside before.
      elim (cases_lt (i * length points + j) (length entries)) [
        | inl p ↦ rw (get_or_append_left entries (weight ∷ []) 0 (i * length points + j) p) (so_far.each i j inside p)
        | inr q ↦
            let e : i * length points + j ≡ length entries = omega (arith, length_push entries weight, before) in
            let same = same_from_place i j row column (length points) inside within (e ∙ next) in
            rw (get_or_push entries weight 0 (i * length points + j) (sym e), same.0, same.1) distance
      ];
  small = bounded_push entries weight 1000000000 so_far.small small;
}

-- the grid that is all written
pub HasDistances-from_rows : (metric : Metric) (points : List (ℤ × ℤ)) (nodes : ℕ) (entries : List ℕ) → nodes ≡ length points → length entries ≡ nodes * nodes → AreDistances metric points entries → HasDistances metric points (record { nodes = nodes; entries = entries })
HasDistances-from_rows metric points nodes entries count square all = record {
  count = count;
  each = λ i j from to a b.
      let inside_i = slice_get_within points i from a in
      let inside_j = slice_get_within points j to b in
      let row : i + 1 - 1 ≡ i = omega arith in
      let column : j + 1 - 1 ≡ j = omega arith in
      let before : i * length points + j < length points * length points = mul-add-lt i (length points) j (length points) inside_i inside_j in
      let inside : i * length points + j < length entries = rw (square, count) before in
      rw (row, column, count) (all.each i j inside_j inside from to a b);
}
