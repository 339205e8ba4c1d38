-- Rows that are remembered everywhere: full counts.
use Rattle.std.proofs.Common.{◌≡◌, ℕ, zero, suc, ◌+◌, ◌*◌, ◌/◌, ◌%◌, ◌<◌, ◌≤◌, List, [], ◌∷◌, map, get_or, refl, sym, ◌∙◌, ap, arith, pos, ◌-ℤ◌, min, max}
use Rattle.std.specs.Int.{bit_at}
use Rattle.std.specs.Int.RustNames.{bit_or}
use Rattle.std.specs.List.{All, sum_by}
use Rattle.std.proofs.lemmas.List.Elements.{All-cons, All-head, All-tail}
use Rattle.std.proofs.lemmas.List.Sums.{sum_by-cons}
use Rattle.std.proofs.lemmas.Nat.Bits.{bit_at-lt, bit_at-suc, bit_at_lowest, bit_at_or}
use Rattle.vrp_model.specs.Problem.{IsProblem, Problem, place_count}
use Rattle.vrp_model.specs.Route.{route_cost}
use Rattle.vrp_duals.specs.Duals.{AreDualsOf, DualsOf, IsRemembered, entry_payment, int_sum_by, pairs_of, price_of, reduced, reduced_full, state_of, turns_of}
use Rattle.vrp_duals.specs.Folding.{AreFull, FoldedOf, IsFolded, bits_of, folded_cost, remembering}
use Rattle.vrp_duals.specs.declared.rows.SubsetRow.{SubsetRow}
use Rattle.vrp_duals.proofs.FoldedCosts.{folded_route}
use Rattle.vrp_duals.proofs.FoldedRows.{state_lt}
use Rattle.vrp_duals.proofs.ListSums.{sum_by_same}

-- a bit for each place
abbrev ones : ℕ → ℕ
ones zero = 0
ones (suc n) = 1 + 2 * ones n

ones_lowest : (n : ℕ) → (1 + 2 * n) % 2 ≡ 1
ones_lowest n = omega arith

ones_half : (n : ℕ) → (1 + 2 * n) / 2 ≡ n
ones_half n = omega arith

bit_ones : (n j : ℕ) → j < n → bit_at (ones n) j ≡ 1
bit_ones zero j lt = absurd (omega (arith, lt))
bit_ones (suc n) zero lt = bit_at_lowest (1 + 2 * ones n) ∙ ones_lowest (ones n)
bit_ones (suc n) (suc j) lt = bit_at-suc (1 + 2 * ones n) j ∙ (ap (λ m. bit_at m j) (ones_half (ones n)) ∙ bit_ones n j (omega (arith, lt)))

abbrev full_row : ℕ → SubsetRow → SubsetRow
full_row places row = record { customers = row.customers; memory = bit_or row.memory (ones places); price = row.price }

-- the prices with all places in each memory
abbrev fully : ℕ → DualsOf → DualsOf
fully places d = record { scale = d.scale; prices = d.prices; entries = d.entries; rows = map (full_row places) d.rows }

full_memory : (places : ℕ) (row : SubsetRow) (j : ℕ) → j < places → bit_at (full_row places row).memory j ≡ 1
full_memory places row j lt = high (bit_at_or row.memory (ones places) j) (bit_ones places j lt) (bit_at-lt row.memory j)
  where
    high : {o a b : ℕ} → o ≡ max a b → b ≡ 1 → a < 2 → o ≡ 1
    high e f less = omega arith

full_remembered : (places : ℕ) (row : SubsetRow) → IsRemembered row → IsRemembered (full_row places row)
full_remembered places row within j = under (bit_at (ones places) j) (bit_at_or row.memory (ones places) j) (within j)
  where
    under : {o a x : ℕ} (b : ℕ) → o ≡ max a b → x ≤ a → x ≤ o
    under b e le = omega arith

-- such a row turns once for two customers
counted : (places : ℕ) (row : SubsetRow) (stops : List ℕ) → All (λ j. j < places) stops → 2 * turns_of (full_row places row) stops + state_of (full_row places row) stops ≡ sum_by (bit_at row.customers) stops
counted places row [] inside = refl
counted places row (j ∷ stops) inside =
    let full = full_row places row in
    step (state_of full stops) (bit_at full.memory j) (bit_at row.customers j) (turns_of full stops) (sum_by (bit_at row.customers) stops) (sum_by-cons (bit_at row.customers) j stops) (counted places row stops (All-tail (λ j. j < places) j stops inside))
    (full_memory places row j (All-head (λ j. j < places) j stops inside)) (bit_at-lt row.customers j) (state_lt full stops)
  where
    step : (s m x n k : ℕ) {c : ℕ} → c ≡ x + k → 2 * n + s ≡ k → m ≡ 1 → x < 2 → s < 2 → 2 * (n + min s x) + (min s m + x) % 2 ≡ c
    step s m x n k e f one a b = omega arith

turns_are_pairs : (places : ℕ) (row : SubsetRow) (stops : List ℕ) → All (λ j. j < places) stops → turns_of (full_row places row) stops ≡ pairs_of row stops
turns_are_pairs places row stops inside = half (counted places row stops inside) (state_lt (full_row places row) stops)
  where
    half : {n s c : ℕ} → 2 * n + s ≡ c → s < 2 → n ≡ c / 2
    half e lt = omega arith

sum_by_map : {X Y : Type 0} (f : Y → ℕ) (h : X → Y) (xs : List X) → sum_by f (map h xs) ≡ sum_by (λ x. f (h x)) xs
sum_by_map f h [] = refl
sum_by_map f h (x ∷ xs) = omega (arith, sum_by-cons f (h x) (map h xs), sum_by-cons (λ y. f (h y)) x xs, sum_by_map f h xs)

reduced_is : (p : Problem) (d : DualsOf) (route : List ℕ) → All (λ j. j < place_count p) route → reduced p (fully (place_count p) d) route ≡ reduced_full p d route
reduced_is p d route inside =
    let full = full_row (place_count p) in
    let rows = sum_by_map (λ row. turns_of row route * row.price) full d.rows ∙ sum_by_same (λ row. turns_of (full row) route * row.price) (λ row. pairs_of row route * row.price) d.rows (λ row. ap (λ n. n * row.price) (turns_are_pairs (place_count p) row route inside)) in
    ap (λ n. pos (d.scale * route_cost p route + n) -ℤ int_sum_by (price_of d) route -ℤ entry_payment d.entries route) rows

all_remembered : (places : ℕ) (rows : List SubsetRow) → All IsRemembered rows → All IsRemembered (map (full_row places) rows)
all_remembered places [] all = λ k d lt. absurd (omega (arith, lt))
all_remembered places (row ∷ rows) all = All-cons IsRemembered (full_row places row) (map (full_row places) rows) (full_remembered places row (All-head IsRemembered row rows all)) (all_remembered places rows (All-tail IsRemembered row rows all))

-- ---- folded prices

bits_map : {X Y : Type 0} (f : Y → ℕ) (h : X → Y) (xs : List X) → bits_of f (map h xs) ≡ bits_of (λ x. f (h x)) xs
bits_map f h [] = refl
bits_map f h (x ∷ xs) = ap (λ n. f (h x) + 2 * n) (bits_map f h xs)

bits_same : {X : Type 0} (f h : X → ℕ) (xs : List X) → ((x : X) → f x ≡ h x) → bits_of f xs ≡ bits_of h xs
bits_same f h [] each = refl
bits_same f h (x ∷ xs) each = omega (arith, each x, bits_same f h xs each)

prices_map : (places : ℕ) (rows : List SubsetRow) → map (λ (row : SubsetRow). row.price) (map (full_row places) rows) ≡ map (λ (row : SubsetRow). row.price) rows
prices_map places [] = refl
prices_map places (row ∷ rows) = ap (λ (xs : List ℕ). row.price ∷ xs) (prices_map places rows)

full_folded : (p : Problem) (d : DualsOf) (f : FoldedOf) (memories : List ℕ) → AreDualsOf p d → IsFolded p d f → AreFull d memories → IsFolded p (fully (place_count p) d) (remembering f memories)
full_folded p d f memories duals is full =
    let row = full_row (place_count p) in
    record {
      places = is.places;
      arcs = is.arcs;
      members = λ j lt. is.members j lt ∙ sym (bits_map (λ (r : SubsetRow). bit_at r.customers j) row d.rows);
      memories = λ j lt. full j (omega (arith, lt, duals.one_each)) ∙ (bits_same (λ (r : SubsetRow). 1) (λ r. bit_at (row r).memory j) d.rows (λ r. sym (full_memory (place_count p) r j lt)) ∙ sym (bits_map (λ (r : SubsetRow). bit_at r.memory j) row d.rows));
      row_prices = λ k. is.row_prices k ∙ ap (λ (xs : List ℕ). get_or xs k 0) (sym (prices_map (place_count p) d.rows));
    }

pub full_route : (p : Problem) (d : DualsOf) (f : FoldedOf) (memories route : List ℕ) → IsProblem p → AreDualsOf p d → IsFolded p d f → AreFull d memories → All (λ stop. stop < place_count p) route → folded_cost (remembering f memories) route ≡ reduced_full p d route
full_route p d f memories route problem duals is full inside =
    folded_route p (fully (place_count p) d) (remembering f memories) route problem (record { one_each = duals.one_each; depot = duals.depot; remembered = all_remembered (place_count p) d.rows duals.remembered }) (full_folded p d f memories duals is full) inside
    ∙ reduced_is p d route inside
