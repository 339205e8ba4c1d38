-- What the test says whether a number is below another.
use Rattle.std.proofs.Common.{◌≡◌, ℕ, ◌<◌, ◌≤◌, true, false, nat_lt, arith}
use Rattle.std.proofs.lemmas.Bool.Decides.{nat_tests}

pub is_below : (n m : ℕ) → nat_lt n m ≡ true → n < m
is_below n m is = grind (arith, nat_tests)

pub not_below : (n m : ℕ) → nat_lt n m ≡ false → m ≤ n
not_below n m is = grind (arith, nat_tests)

pub tests_below : (n m : ℕ) → n < m → nat_lt n m ≡ true
tests_below n m lt = grind (arith, nat_tests)
