-- A lower bound in hundredths.
use Rattle.std.specs.Prelude.{ℕ}
use Rattle.std.specs.Int.{div_ceil}
use Rattle.vrp_bound.specs.declared.lower_bound.LowerBound.{LowerBound}

-- the least whole cost that is not below it
abbrev pub rounded_up : LowerBound → ℕ
rounded_up bound = div_ceil bound.hundredths 100
