use Rattle.std.proofs.Common.{◌≡◌, ◌+◌, length}
use Rattle.vrp_linear_program.proofs.removal.split_rows.Given as goal

abbrev pub invariant-loop-row : goal.invariant-loop-row
invariant-loop-row l = length l.kept.items + length l.gone.items ≡ l.row
