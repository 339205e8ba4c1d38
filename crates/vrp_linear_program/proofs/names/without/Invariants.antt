use Rattle.std.proofs.Common.{◌≤◌, length}
use Rattle.std.specs.List.{All, Contains}
use Rattle.vrp_linear_program.proofs.names.without.Given as goal

abbrev pub invariant-loop-index : goal.invariant-loop-index
invariant-loop-index l = All (Contains l.names) l.kept.items × (length l.kept.items ≤ l.index)
