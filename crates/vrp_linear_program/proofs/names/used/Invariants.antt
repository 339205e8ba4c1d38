use Rattle.std.specs.List.{All, Contains}
use Rattle.vrp_linear_program.proofs.names.used.Given as goal

abbrev pub invariant-loop-column : goal.invariant-loop-column
invariant-loop-column l = All (λ column. Contains l.matrix.names.items column.name) l.used.items
