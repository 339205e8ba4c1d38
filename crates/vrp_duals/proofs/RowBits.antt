-- Sets of rows and their prices, a row at a time.
use Rattle.std.proofs.Common.{◌≡◌, inl, inr, ℕ, ◌+◌, ◌*◌, ◌^◌, ◌<◌, ◌≤◌, List, [], ◌∷◌, ◌++◌, map, take, length, get_or, sym, ◌∙◌, ap, subst, arith, bit_or, bit_and, min}
use Rattle.std.specs.Int.{bit_at}
use Rattle.std.specs.List.{All}
use Rattle.std.proofs.Math.Nat.{pow-suc, one-mul, zero-mul}
use Rattle.std.proofs.lemmas.Bool.{cases_lt}
use Rattle.std.proofs.lemmas.List.{get_or-map, get_or_default, get_or_past, length-map, length-take, take_more}
use Rattle.std.proofs.lemmas.Nat.{or_disjoint}
use Rattle.std.proofs.lemmas.Nat.Bits.{and_pow, bit_at-lt, bit_at_above, bit_at_and, same_from_bits}
use Rattle.vrp_duals.specs.Folding.{bits_of}
use Rattle.vrp_duals.specs.declared.limits.TheConstants.{MAX_ROW_PRICE, MAX_SUBSET_ROWS}
use Rattle.vrp_duals.specs.declared.rows.SubsetRow.{SubsetRow}

bits_small : {X : Type 0} (f : X → ℕ) → ((x : X) → f x < 2) → (xs : List X) → bits_of f xs < 2 ^ length xs
bits_small f fs [] = omega arith
bits_small f fs (x ∷ xs) = omega (arith, fs x, bits_small f fs xs, pow-suc 2 (length xs))

bits_push : {X : Type 0} (f : X → ℕ) (xs : List X) (x : X) → bits_of f (xs ++ x ∷ []) ≡ bits_of f xs + f x * 2 ^ length xs
bits_push f [] x = omega arith
bits_push f (y ∷ xs) x = step (f y) (f x) (bits_of f xs) (2 ^ length xs) (bits_push f xs x) (pow-suc 2 (length xs))
  where
    step : (a b n k : ℕ) {m kk : ℕ} → m ≡ n + b * k → kk ≡ k * 2 → a + 2 * m ≡ a + 2 * n + b * kk
    step a b n k e g = rw (e, g) (omega arith)

-- a row that is in
pub bits_with : {X : Type 0} (f : X → ℕ) → ((x : X) → f x < 2) → (xs : List X) (i set : ℕ) (d : X) → i < length xs → set ≡ bits_of f (take i xs) → f (get_or xs i d) ≡ 1 → bit_or set (2 ^ i) ≡ bits_of f (take (i + 1) xs)
bits_with f fs xs i set d lt is in_it =
    let long : length (take i xs) ≡ i = omega (arith, length-take i xs) in
    let small : set < 2 ^ i = subst (λ n. n < 2 ^ i) (sym is) (subst (λ n. bits_of f (take i xs) < 2 ^ n) long (bits_small f fs (take i xs))) in
    let apart : bit_and set (2 ^ i) ≡ 0 = and_pow set i ∙ (ap (λ n. n * 2 ^ i) (bit_at_above set i i small (omega arith)) ∙ zero-mul (2 ^ i)) in
    or_disjoint set (2 ^ i) apart
    ∙ (ap (λ n. n + 2 ^ i) is
    ∙ (sym (ap (λ n. bits_of f (take i xs) + n) (ap (λ n. n * 2 ^ i) in_it ∙ one-mul (2 ^ i)))
    ∙ (ap (λ n. bits_of f (take i xs) + f (get_or xs i d) * 2 ^ n) (sym long)
    ∙ (sym (bits_push f (take i xs) (get_or xs i d)) ∙ ap (bits_of f) (sym (take_more xs i d lt))))))

-- a row that is not
pub bits_without : {X : Type 0} (f : X → ℕ) (xs : List X) (i set : ℕ) (d : X) → i < length xs → set ≡ bits_of f (take i xs) → f (get_or xs i d) ≡ 0 → set ≡ bits_of f (take (i + 1) xs)
bits_without f xs i set d lt is out =
    is
    ∙ (none (f (get_or xs i d)) (2 ^ length (take i xs)) (bits_of f (take i xs)) out
    ∙ (sym (bits_push f (take i xs) (get_or xs i d)) ∙ ap (bits_of f) (sym (take_more xs i d lt))))
  where
    none : (b k n : ℕ) → b ≡ 0 → n ≡ n + b * k
    none b k n e = rw e (omega (arith, zero-mul k))

-- a bit that is not 1
pub bit_clear : (set i : ℕ) → (bit_at set i ≡ 1 → ⊥) → bit_at set i ≡ 0
bit_clear set i not = none (bit_at-lt set i) not
  where
    none : {x : ℕ} → x < 2 → (x ≡ 1 → ⊥) → x ≡ 0
    none lt not = omega arith

-- ---- prices

abbrev pub no_row : SubsetRow
no_row = record { customers = 0; memory = 0; price = 0 }

abbrev pub prices_in : List SubsetRow → List ℕ
prices_in rows = map (λ (row : SubsetRow). row.price) rows

pub price_past : (rows : List SubsetRow) (k : ℕ) → length rows ≤ k → 0 ≡ get_or (prices_in rows) k 0
price_past rows k past = sym (get_or_past (prices_in rows) k 0 (omega (arith, past, length-map rows (λ (r : SubsetRow). r.price))))

pub price_here : (rows : List SubsetRow) (k : ℕ) (row : SubsetRow) → k < length rows → row ≡ get_or rows k row → row.price ≡ get_or (prices_in rows) k 0
price_here rows k row lt read = sym (get_or-map (λ (r : SubsetRow). r.price) rows k row 0 lt ∙ ap (λ (r : SubsetRow). r.price) (sym read))

-- the prices of the rows, and 0 past them
pub prices_padded : (rows : List SubsetRow) (items : List ℕ) → length items ≡ MAX_SUBSET_ROWS → length rows ≤ MAX_SUBSET_ROWS → ((k : ℕ) → k < length items → get_or items k 0 ≡ get_or (prices_in rows) k 0) → (k : ℕ) → get_or items k 0 ≡ get_or (prices_in rows) k 0
prices_padded rows items long few each k = elim (cases_lt k (length items)) [
  | inl lt ↦ each k lt
  | inr past ↦ get_or_past items k 0 past ∙ price_past rows k (omega (arith, past, long, few))
]

pub prices_small : (rows : List SubsetRow) (items : List ℕ) → All (λ (row : SubsetRow). row.price ≤ MAX_ROW_PRICE) rows → ((k : ℕ) → k < length items → get_or items k 0 ≡ get_or (prices_in rows) k 0) → All (λ price. price ≤ MAX_ROW_PRICE) items
prices_small rows items small each k d lt =
    subst (λ n. n ≤ MAX_ROW_PRICE) (get_or_default items k 0 d lt) (subst (λ n. n ≤ MAX_ROW_PRICE) (sym (each k lt)) (here k))
  where
    here : (k : ℕ) → get_or (prices_in rows) k 0 ≤ MAX_ROW_PRICE
    here k = elim (cases_lt k (length rows)) [
      | inl lt ↦ subst (λ n. n ≤ MAX_ROW_PRICE) (sym (get_or-map (λ (r : SubsetRow). r.price) rows k no_row 0 lt)) (small k no_row lt)
      | inr past ↦ subst (λ n. n ≤ MAX_ROW_PRICE) (price_past rows k past) (omega arith)
    ]

-- ---- parts of sets

-- what one set has, the other has
pub part_bits : (a b : ℕ) → bit_and a b ≡ a → (i : ℕ) → bit_at a i ≤ bit_at b i
part_bits a b part i = low (sym (bit_at_and a b i) ∙ ap (λ n. bit_at n i) part)
  where
    low : {x y : ℕ} → min x y ≡ x → x ≤ y
    low is = omega arith

pub part_of_bits : (a b : ℕ) → ((i : ℕ) → bit_at a i ≤ bit_at b i) → bit_and a b ≡ a
part_of_bits a b each = same_from_bits (bit_and a b) a (λ i. bit_at_and a b i ∙ low (each i))
  where
    low : {x y : ℕ} → x ≤ y → min x y ≡ x
    low is = omega arith
