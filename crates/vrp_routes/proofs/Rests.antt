-- Which customers leave a rest.
use Rattle.std.proofs.Common.{◌≡◌, ◌∙◌, ℕ, ◌+◌, ◌*◌, ◌/◌, ◌%◌, ◌<◌, ◌≤◌, inl, inr, arith}
use Rattle.std.proofs.lemmas.Bool.{cases_lt}
use Rattle.std.proofs.Math.Nat.{add-mod_right, mod-add-div, mul-le-mul_left}

-- the next one of a share
pub next_of_share : (shares rest n : ℕ) → n % shares ≡ rest → (n + shares) % shares ≡ rest
next_of_share shares rest n is = add-mod_right n shares ∙ is

-- between the two there is none
pub none_between : (shares rest m n : ℕ) → m % shares ≡ rest → m < n → n < m + shares → n % shares ≡ rest → ⊥
none_between shares rest m n one less more other =
    let first = mod-add-div m shares in
    let second = mod-add-div n shares in
    elim (cases_lt (m / shares) (n / shares)) [
      | inl below ↦ (let far : shares * (m / shares + 1) ≤ shares * (n / shares) = mul-le-mul_left shares (omega (arith, below)) in omega (arith, first, second, one, other, far, more))
      | inr above ↦ (let near : shares * (n / shares) ≤ shares * (m / shares) = mul-le-mul_left shares above in omega (arith, first, second, one, other, near, less))
    ]
