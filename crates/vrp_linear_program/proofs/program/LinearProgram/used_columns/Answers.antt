use Rattle.std.proofs.Common.{All, Contains, IfOk, subst}
use Rattle.vrp_linear_program.specs.Shape.{Shape}
use Rattle.vrp_linear_program.proofs.program.LinearProgram.used_columns.Goals as goal

pub returns : goal.returns
returns c =
    subst (λ (shape : Shape). IfOk c.used.result (λ used. All (λ column. Contains shape.names column.name) used.items)) c.self.view_is c.used.ensures
