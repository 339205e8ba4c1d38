-- The exit status of a checked plan.
use Rattle.std.specs.Prelude.{ℕ, Bool, false, true}

-- 6 if its file states a wrong cost, and 0 otherwise
abbrev pub cost_code : Bool → ℕ
cost_code true = 6
cost_code false = 0
