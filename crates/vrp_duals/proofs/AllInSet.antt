-- Sets that have all of some stops.
use Rattle.std.proofs.Common.{◌≡◌, inl, inr, ℕ, ◌^◌, ◌<◌, ◌≤◌, List, [], ◌∷◌, sym, subst, arith, max}
use Rattle.std.specs.Int.{bit_at}
use Rattle.std.specs.List.{All}
use Rattle.std.proofs.lemmas.Bool.{cases_eq}
use Rattle.std.proofs.lemmas.List.Elements.{All-cons, All-head, All-nil, All-tail}
use Rattle.std.proofs.lemmas.Nat.Bits.{bit_at-lt, bit_at-pow_other, bit_at-pow_same, bit_at-zero, bit_at_or}
use Rattle.vrp_model.specs.CustomerSet.{set_of}

-- the stops are in the set
abbrev pub AreIn : ℕ → List ℕ → Type 0
AreIn set stops = All (λ stop. bit_at set stop ≡ 1) stops

pub within_set : (set : ℕ) (stops : List ℕ) → AreIn set stops → (i : ℕ) → bit_at (set_of stops) i ≤ bit_at set i
within_set set [] are i = omega (arith, bit_at-zero i)
within_set set (stop ∷ stops) are i =
    let rest = within_set set stops (All-tail (λ stop. bit_at set stop ≡ 1) stop stops are) i in
    let here = All-head (λ stop. bit_at set stop ≡ 1) stop stops are in
    elim (cases_eq stop i) [
      | inl same ↦ under (bit_at_or (2 ^ stop) (set_of stops) i) (bit_at-lt (2 ^ stop) i) rest (subst (λ n. bit_at set n ≡ 1) same here)
      | inr other ↦ over (bit_at_or (2 ^ stop) (set_of stops) i) (bit_at-pow_other stop i (λ same. other (sym same))) rest
    ]
  where
    under : {o a b c : ℕ} → o ≡ max a b → a < 2 → b ≤ c → c ≡ 1 → o ≤ c
    under e lt le one = omega arith

    over : {o a b c : ℕ} → o ≡ max a b → a ≡ 0 → b ≤ c → o ≤ c
    over e none le = omega arith

pub are_in_set : (set : ℕ) (stops : List ℕ) → ((i : ℕ) → bit_at (set_of stops) i ≤ bit_at set i) → AreIn set stops
are_in_set set [] within = All-nil (λ stop. bit_at set stop ≡ 1)
are_in_set set (stop ∷ stops) within =
    All-cons (λ stop. bit_at set stop ≡ 1) stop stops
    (first (bit_at (set_of stops) stop) (bit_at_or (2 ^ stop) (set_of stops) stop) (bit_at-pow_same stop) (within stop) (bit_at-lt set stop))
    (are_in_set set stops (λ i. rest (bit_at (2 ^ stop) i) (bit_at_or (2 ^ stop) (set_of stops) i) (within i)))
  where
    first : {o a c : ℕ} (b : ℕ) → o ≡ max a b → a ≡ 1 → o ≤ c → c < 2 → c ≡ 1
    first b e one le lt = omega arith

    rest : {o b c : ℕ} (a : ℕ) → o ≡ max a b → o ≤ c → b ≤ c
    rest a e le = omega arith
