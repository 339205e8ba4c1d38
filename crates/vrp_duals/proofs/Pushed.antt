-- What holds of each element of a table, with one more pushed.
use Rattle.std.proofs.Common.{◌≡◌, ℕ, ◌<◌, List, [], ◌∷◌, ◌++◌, length, get_or, inl, inr, sym, subst, arith}
use Rattle.std.proofs.lemmas.Bool.{cases_lt}
use Rattle.std.proofs.lemmas.List.{get_or_append_left, get_or_push, length_push}

pub each_push : {X : Type 0} (P : ℕ → X → Type 0) (d : X) (xs : List X) (x : X) → ((k : ℕ) → k < length xs → P k (get_or xs k d)) → P (length xs) x → (k : ℕ) → k < length (xs ++ x ∷ []) → P k (get_or (xs ++ x ∷ []) k d)
each_push P d xs x each here k within =
    elim (cases_lt k (length xs)) [
      | inl p ↦ subst (P k) (sym (get_or_append_left xs (x ∷ []) d k p)) (each k p)
      | inr q ↦
          let last : length xs ≡ k = omega (arith, within, length_push xs x) in
          subst (P k) (sym (get_or_push xs x d k last)) (subst (λ n. P n x) last here)
    ]
