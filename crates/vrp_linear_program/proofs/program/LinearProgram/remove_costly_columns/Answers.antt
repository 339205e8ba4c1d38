use Rattle.std.proofs.Common.{All, Contains, OnOk, subst}
use Rattle.vrp_linear_program.specs.Shape.{Shape}
use Rattle.vrp_linear_program.proofs.program.LinearProgram.remove_costly_columns.Goals as goal

pub returns-clause-names : goal.returns-clause-names
returns-clause-names c =
    subst (λ (shape : Shape). OnOk c.drop_columns.result (All (Contains shape.names) c.drop_columns.new.self.names)) c.self.view_is c.drop_columns.ensures.names
