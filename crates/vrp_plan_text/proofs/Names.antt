-- Names, as a file states them.
use Rattle.std.proofs.Common.{◌≡◌, ℕ, ◌<◌, true, nat_lt, None, Some, List, length, refl, inl, inr, arith}
use Rattle.std.proofs.lemmas.Bool.{cases_Bool}
use Rattle.std.proofs.lemmas.Bool.Decides.{nat_tests}
use Rattle.std.proofs.lemmas.Str.{IsUtf8-from_is_utf8, is_utf8-from_IsUtf8}
use Rattle.std.specs.Str.{IsUtf8, is_utf8}
use Rattle.vrp_plan_text.specs.Name.{as_name}

-- a text with a byte is a name where it is UTF-8
pub is_name : (text : List ℕ) → 0 < length text → IsUtf8 text → as_name text ≡ Some text
is_name text some valid =
    let long : nat_lt 0 (length text) ≡ true = grind (arith, nat_tests) in
    rw (long, is_utf8-from_IsUtf8 text valid) refl

-- and none where it isn't
pub no_name : (text : List ℕ) → (IsUtf8 text → ⊥) → as_name text ≡ None
no_name text invalid =
    elim (cases_Bool (is_utf8 text)) [
      | inl valid ↦ absurd (invalid (IsUtf8-from_is_utf8 text valid))
      | inr not_valid ↦ elim (cases_Bool (nat_lt 0 (length text))) [
        | inl some ↦ rw (some, not_valid) refl
        | inr none ↦ rw none refl
      ]
    ]
