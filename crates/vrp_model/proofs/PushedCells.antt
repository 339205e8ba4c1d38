-- What holds of each cell, with one more cell pushed.
use Rattle.std.proofs.Common.{◌≡◌, ℕ, ◌<◌, List, [], ◌∷◌, ◌++◌, length, slice_index, inl, inr, sym, subst, arith}
use Rattle.std.proofs.lemmas.Bool.{cases_lt}
use Rattle.std.proofs.lemmas.List.{get_or_append_left, get_or_push, length_push}

pub each_push : (P : ℕ → ℕ → Type 0) (cells : List ℕ) (cell : ℕ) → ((k : ℕ) → k < length cells → P k (slice_index cells k)) → P (length cells) cell → (k : ℕ) → k < length (cells ++ cell ∷ []) → P k (slice_index (cells ++ cell ∷ []) k)
each_push P cells cell each here k within =
    elim (cases_lt k (length cells)) [
      | inl p ↦ subst (P k) (sym (get_or_append_left cells (cell ∷ []) 0 k p)) (each k p)
      | inr q ↦
          let last : length cells ≡ k = omega (arith, within, length_push cells cell) in
          subst (P k) (sym (get_or_push cells cell 0 k last)) (subst (λ n. P n cell) last here)
    ]
