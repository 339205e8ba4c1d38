-- The lines of a file, from its front.
use Rattle.std.proofs.Common.{◌≡◌, ℕ, ◌+◌, ◌-◌, Bool, true, false, List, [], ◌∷◌, length, get_or, take, drop, refl, arith}
use Rattle.std.specs.List.{slice_split, position_or_len, before_first, after_first}
use Rattle.std.proofs.lemmas.List.{take_rest}
use Rattle.std.proofs.lemmas.List.Sums.{position_or_len_is}
use Rattle.std.proofs.lemmas.List.Splits.{slice_split_first}
use Rattle.memchr.specs.Find.{Passes, Nowhere, NoneBefore}
use Rattle.vrp_text.proofs.TokenLemmas.{split_whole}

not_true : (b : Bool) → (b ≡ true → ⊥) → b ≡ false
not_true true h = absurd (h refl)
not_true false h = refl

-- up to a byte that passes
pub split_found : (p : ℕ → Bool) (bytes : List ℕ) (end : ℕ) → NoneBefore (Passes p bytes) 0 (length bytes) end → Passes p bytes end
    → slice_split p bytes ≡ take end bytes ∷ slice_split p (take (length bytes - (end + 1)) (drop (end + 1) bytes))
split_found p bytes end none here =
    let within = none.high in
    let place : position_or_len p bytes ≡ end = position_or_len_is p bytes end 0 (omega arith) (λ k below. not_true (p (get_or bytes k 0)) (λ passes. none.before k (omega arith) below passes)) (λ _. here) in
    let parts : slice_split p bytes ≡ before_first p bytes ∷ slice_split p (after_first p bytes) = slice_split_first p bytes 0 (omega arith) in
    rw (take_rest bytes (end + 1), ← place) parts

-- up to the end
pub split_last : (p : ℕ → Bool) (bytes : List ℕ) → Nowhere (Passes p bytes) 0 (length bytes) → slice_split p bytes ≡ bytes ∷ []
split_last p bytes none =
    split_whole p bytes (position_or_len_is p bytes (length bytes) 0 (omega arith) (λ k below. not_true (p (get_or bytes k 0)) (λ passes. none k (omega arith) below passes)) (λ below. absurd (omega arith)))
