-- The indexes of rows of cells are small.
use Rattle.std.proofs.Common.{ℕ, ◌*◌, ◌≤◌, arith}
use Rattle.std.proofs.lemmas.Nat.{mul-le}

-- the index of the row of a load
pub row_small : (load places : ℕ) → load ≤ 200000001 → places ≤ 1200 → load * places ≤ 240000001200
row_small load places light few = omega (arith, mul-le load places 200000001 1200 light few)
