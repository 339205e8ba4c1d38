use Rattle.std.proofs.Common.{◌≤◌}
use Rattle.vrp_bound_prices.proofs.ascent.unit.unit_for.Given as goal

abbrev pub invariant-loop : goal.invariant-loop
invariant-loop l = 1 ≤ l.unit
