-- Sets in two words: what a word says of the whole set.
use Rattle.std.proofs.Common.{◌≡◌, ℕ, ◌+◌, ◌*◌, ◌/◌, ◌%◌, ◌^◌, ◌-◌, ◌<◌, ◌≤◌, ◌==◌, ◌↔◌, inl, inr, true, IsTrue, bit_and, bit_or, bit_xor, count_ones, nat_le, sym, ap, ◌∙◌, arith, eq-eqb}
use Rattle.std.specs.Int.{bit_at, w128}
use Rattle.std.specs.Int.Bits.{and_self, and_zero_l}
use Rattle.std.specs.Int.Count.{count_trailing_zeros}
use Rattle.std.proofs.lemmas.Bool.{cases_lt, eqb-true, le-leb}
use Rattle.std.proofs.lemmas.Nat.{and_block, and_le_r, and_mask, mod-pow-add, mod_below, mod_low, one_shl, ones_cat, ones_le_self, or_block, pow-add, pow_pos, shr_high, xor_block, zero_from_ones}
use Rattle.std.proofs.lemmas.Nat.Bits.{bit_at-trailing_zeros, bit_at-zero, bit_at_cat_high, bit_at_cat_low, shr_and_one}
use Rattle.vrp_model.specs.CustomerSet.{IsFirst}

-- ---- one customer

pub low_bit : (high low customer : ℕ) → customer < 128 → bit_at (high * 2 ^ 128 + low) customer ≡ bit_at low customer
low_bit high low customer lt = bit_at_cat_low high 128 low customer lt

pub high_bit : (high low customer : ℕ) → low < 2 ^ 128 → 128 ≤ customer → bit_at (high * 2 ^ 128 + low) customer ≡ bit_at high (customer - 128)
high_bit high low customer small le = bit_at_cat_high high 128 low customer small le

same_test : (n k bit : ℕ) → bit_at n k ≡ bit → IsTrue (bit_and (n / 2 ^ k) 1 == 1) ↔ (bit ≡ 1)
same_test n k bit is = (
  (λ t. sym is ∙ (sym (shr_and_one n k) ∙ eqb-true (bit_and (n / 2 ^ k) 1) 1 t)),
  (λ set. eq-eqb (bit_and (n / 2 ^ k) 1) 1 (shr_and_one n k ∙ (is ∙ set))),
)

pub low_test : (high low set customer : ℕ) → high * 2 ^ 128 + low ≡ set → customer < 128 → IsTrue (bit_and (low / 2 ^ customer) 1 == 1) ↔ (bit_at set customer ≡ 1)
low_test high low set customer is lt = same_test low customer (bit_at set customer) (sym (low_bit high low customer lt) ∙ ap (λ n. bit_at n customer) is)

pub high_test : (high low set customer : ℕ) → low < 2 ^ 128 → high * 2 ^ 128 + low ≡ set → 128 ≤ customer → IsTrue (bit_and (high / 2 ^ (customer - 128)) 1 == 1) ↔ (bit_at set customer ≡ 1)
high_test high low set customer small is le = same_test high (customer - 128) (bit_at set customer) (sym (high_bit high low customer small le) ∙ ap (λ n. bit_at n customer) is)

pub high_power : (customer : ℕ) → 128 ≤ customer → customer < 256 → (1 * 2 ^ (customer - 128) % 2 ^ 128) * 2 ^ 128 + 0 ≡ 2 ^ customer
high_power customer le lt =
    let one = one_shl (customer - 128) 128 (omega arith) in
    let parts : 2 ^ (customer - 128 + 128) ≡ 2 ^ (customer - 128) * 2 ^ 128 = pow-add 2 (customer - 128) 128 in
    let whole : customer - 128 + 128 ≡ customer = omega arith in
    (let plain : (1 * 2 ^ (customer - 128) % 2 ^ 128) * 2 ^ 128 + 0 ≡ (1 * 2 ^ (customer - 128) % 2 ^ 128) * 2 ^ 128 = omega arith in plain) ∙ ap (λ n. n * 2 ^ 128) one ∙ sym parts ∙ ap (λ n. 2 ^ n) whole

-- ---- two sets

pub both_words : (h l i m s t : ℕ) → l < 2 ^ 128 → m < 2 ^ 128 → h * 2 ^ 128 + l ≡ s → i * 2 ^ 128 + m ≡ t → bit_and h i * 2 ^ 128 + bit_and l m ≡ bit_and s t
both_words h l i m s t small other is are = sym (and_block 128 h i l m small other) ∙ (ap (λ n. bit_and n (i * 2 ^ 128 + m)) is ∙ ap (bit_and s) are)

pub either_words : (h l i m s t : ℕ) → l < 2 ^ 128 → m < 2 ^ 128 → h * 2 ^ 128 + l ≡ s → i * 2 ^ 128 + m ≡ t → bit_or h i * 2 ^ 128 + bit_or l m ≡ bit_or s t
either_words h l i m s t small other is are = sym (or_block 128 h i l m small other) ∙ (ap (λ n. bit_or n (i * 2 ^ 128 + m)) is ∙ ap (bit_or s) are)

pub without_words : (h l i m s t : ℕ) → l < 2 ^ 128 → m < 2 ^ 128 → h * 2 ^ 128 + l ≡ s → i * 2 ^ 128 + m ≡ t → bit_xor h (bit_and h i) * 2 ^ 128 + bit_xor l (bit_and l m) ≡ bit_xor s (bit_and s t)
without_words h l i m s t small other is are =
    let both = both_words h l i m s t small other is are in
    let part : bit_and l m < 2 ^ 128 = omega (arith, and_le_r l m) in
    sym (xor_block 128 h (bit_and h i) l (bit_and l m) small part) ∙ (ap (λ n. bit_xor n (bit_and h i * 2 ^ 128 + bit_and l m)) is ∙ ap (bit_xor s) both)

-- ---- how many

pub counted_words : (h l s : ℕ) → l < 2 ^ 128 → h * 2 ^ 128 + l ≡ s → count_ones h + count_ones l ≡ count_ones s
counted_words h l s small is = sym (ones_cat 128 h l small) ∙ ap count_ones is

some_ones : (n : ℕ) → (n ≡ 0 → ⊥) → 1 ≤ count_ones n
some_ones n some = elim (cases_lt 0 (count_ones n)) [
  | inl lt ↦ omega arith
  | inr le ↦ absurd (some (zero_from_ones n (omega arith)))
]

pub two_of_high : (h l s : ℕ) → l < 2 ^ 128 → l ≡ 0 → h * 2 ^ 128 + l ≡ s → nat_le 2 (count_ones h) ≡ nat_le 2 (count_ones s)
two_of_high h l s small none is = ap (nat_le 2) (let e : count_ones h ≡ count_ones h + count_ones l = omega (arith, none, ones_le_self l) in e ∙ counted_words h l s small is)

pub two_of_low : (h l s : ℕ) → l < 2 ^ 128 → h ≡ 0 → h * 2 ^ 128 + l ≡ s → nat_le 2 (count_ones l) ≡ nat_le 2 (count_ones s)
two_of_low h l s small none is = ap (nat_le 2) (let e : count_ones l ≡ count_ones h + count_ones l = omega (arith, none, ones_le_self h) in e ∙ counted_words h l s small is)

pub two_of_both : (h l s : ℕ) → l < 2 ^ 128 → (l ≡ 0 → ⊥) → (h ≡ 0 → ⊥) → h * 2 ^ 128 + l ≡ s → true ≡ nat_le 2 (count_ones s)
two_of_both h l s small some more is = sym (le-leb 2 (count_ones s) (omega (arith, counted_words h l s small is, some_ones l some, some_ones h more)))

-- ---- how many below a customer

ones_below : (n k : ℕ) → k < 128 → count_ones (bit_and n (1 * 2 ^ k % 2 ^ 128 - 1)) ≡ count_ones (n % 2 ^ k)
ones_below n k lt = ap count_ones (ap (λ m. bit_and n (m - 1)) (one_shl k 128 lt) ∙ and_mask n k)

low_rest : (h l k : ℕ) → l < 2 ^ 128 → k < 128 → (h * 2 ^ 128 + l) % 2 ^ k ≡ l % 2 ^ k
low_rest h l k small lt =
    let s = h * 2 ^ 128 + l in
    let parts = mod-pow-add s (128 - k) k in
    let whole : s % 2 ^ (128 - k + k) ≡ l = ap (λ n. s % 2 ^ n) (let e : 128 - k + k ≡ 128 = omega arith in e) ∙ mod_low h 128 l small in
    sym (ap (λ n. n % 2 ^ k) (sym whole ∙ parts) ∙ mod_low (s / 2 ^ k % 2 ^ (128 - k)) k (s % 2 ^ k) (mod_below s (2 ^ k) (pow_pos k)))

pub rank_of_low : (h l s k : ℕ) → l < 2 ^ 128 → h * 2 ^ 128 + l ≡ s → k < 128 → count_ones (bit_and l (1 * 2 ^ k % 2 ^ 128 - 1)) ≡ count_ones (s % 2 ^ k)
rank_of_low h l s k small is lt = ones_below l k lt ∙ ap count_ones (sym (low_rest h l k small lt) ∙ ap (λ n. n % 2 ^ k) is)

high_rest : (h l k : ℕ) → l < 2 ^ 128 → 128 ≤ k → (h * 2 ^ 128 + l) % 2 ^ k ≡ h % 2 ^ (k - 128) * 2 ^ 128 + l
high_rest h l k small le =
    let s = h * 2 ^ 128 + l in
    let parts = mod-pow-add s (k - 128) 128 in
    let whole : s % 2 ^ (k - 128 + 128) ≡ s % 2 ^ k = ap (λ n. s % 2 ^ n) (let e : k - 128 + 128 ≡ k = omega arith in e) in
    sym whole ∙ parts ∙ ap (λ n. n % 2 ^ (k - 128) * 2 ^ 128 + s % 2 ^ 128) (shr_high h 128 l small) ∙ ap (λ n. h % 2 ^ (k - 128) * 2 ^ 128 + n) (mod_low h 128 l small)

pub rank_of_high : (h l s k : ℕ) → l < 2 ^ 128 → h * 2 ^ 128 + l ≡ s → 128 ≤ k → k < 256 → count_ones (bit_and h (1 * 2 ^ (k - 128) % 2 ^ 128 - 1)) + count_ones l ≡ count_ones (s % 2 ^ k)
rank_of_high h l s k small is le lt =
    ap (λ n. n + count_ones l) (ones_below h (k - 128) (omega arith))
    ∙ sym (ones_cat 128 (h % 2 ^ (k - 128)) l small)
    ∙ ap count_ones (sym (high_rest h l k small le) ∙ ap (λ n. n % 2 ^ k) is)

-- ---- the lowest customer

pub first_low : (h l s : ℕ) → l < 2 ^ 128 → (l ≡ 0 → ⊥) → h * 2 ^ 128 + l ≡ s → IsFirst s (count_trailing_zeros 128 l)
first_low h l s small some is =
    let bits = bit_at-trailing_zeros w128 l (omega (arith, some)) small in
    let k = count_trailing_zeros 128 l in
    let here : (i : ℕ) → i < 128 → bit_at s i ≡ bit_at l i = λ i lt. ap (λ n. bit_at n i) (sym is) ∙ low_bit h l i lt in
    record {
      within = omega (arith, bits.0);
      stands = here k bits.0 ∙ bits.1;
      lowest = λ i lt. here i (omega (arith, bits.0, lt)) ∙ bits.2 i lt;
    }

pub first_high : (h l s : ℕ) → h < 2 ^ 128 → l ≡ 0 → (h ≡ 0 → ⊥) → h * 2 ^ 128 + l ≡ s → IsFirst s (128 + count_trailing_zeros 128 h)
first_high h l s small none some is =
    let bits = bit_at-trailing_zeros w128 h (omega (arith, some)) small in
    let k = count_trailing_zeros 128 h in
    let fits : l < 2 ^ 128 = omega (arith, none) in
    let place : 128 + k - 128 ≡ k = omega arith in
    record {
      within = omega (arith, bits.0);
      stands = ap (λ n. bit_at n (128 + k)) (sym is) ∙ high_bit h l (128 + k) fits (omega arith) ∙ ap (bit_at h) place ∙ bits.1;
      lowest = λ i lt. ap (λ n. bit_at n i) (sym is) ∙ (elim (cases_lt i 128) [
        | inl low ↦ low_bit h l i low ∙ ap (λ n. bit_at n i) none ∙ bit_at-zero i
        | inr high ↦ high_bit h l i fits high ∙ bits.2 (i - 128) (omega (arith, lt, high))
      ]);
    }

pub rest_low : (h l s : ℕ) → l < 2 ^ 128 → (l ≡ 0 → ⊥) → h * 2 ^ 128 + l ≡ s → h * 2 ^ 128 + bit_and l (l - 1) ≡ bit_and s (s - 1)
rest_low h l s small some is =
    let before : h * 2 ^ 128 + (l - 1) ≡ s - 1 = omega (arith, is, some) in
    ap (λ n. n * 2 ^ 128 + bit_and l (l - 1)) (sym (and_self h)) ∙ both_words h l h (l - 1) s (s - 1) small (omega arith) is before

pub rest_high : (h l s : ℕ) → l ≡ 0 → (h ≡ 0 → ⊥) → h * 2 ^ 128 + l ≡ s → bit_and h (h - 1) * 2 ^ 128 + l ≡ bit_and s (s - 1)
rest_high h l s none some is =
    let before : (h - 1) * 2 ^ 128 + (2 ^ 128 - 1) ≡ s - 1 = omega (arith, is, none, some) in
    let nothing : l ≡ bit_and l (2 ^ 128 - 1) = none ∙ (sym (and_zero_l (2 ^ 128 - 1)) ∙ ap (λ n. bit_and n (2 ^ 128 - 1)) (sym none)) in
    ap (λ n. bit_and h (h - 1) * 2 ^ 128 + n) nothing ∙ both_words h l (h - 1) (2 ^ 128 - 1) s (s - 1) (omega (arith, none)) (omega arith) is before

pub rest_falls : (s : ℕ) → 0 < s → bit_and s (s - 1) < s
rest_falls s some = omega (arith, and_le_r s (s - 1))

pub some_low : (h l s : ℕ) → (l ≡ 0 → ⊥) → h * 2 ^ 128 + l ≡ s → 0 < s
some_low h l s some is = omega (arith, is, some)

pub some_high : (h l s : ℕ) → (h ≡ 0 → ⊥) → h * 2 ^ 128 + l ≡ s → 0 < s
some_high h l s some is = omega (arith, is, some)
