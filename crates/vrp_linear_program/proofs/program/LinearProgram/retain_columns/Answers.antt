use Rattle.std.proofs.Common.{All, Contains, OnOk, subst}
use Rattle.vrp_linear_program.specs.Shape.{Shape}
use Rattle.vrp_linear_program.proofs.program.LinearProgram.retain_columns.Goals as goal

pub returns-clause-names : goal.returns-clause-names
returns-clause-names c =
    let known = subst (λ names. OnOk c.drop_columns.result (All (Contains names.items) c.drop_columns.new.self.names)) c.ban_basic.ensures.names c.drop_columns.ensures.names in
    subst (λ (shape : Shape). OnOk c.drop_columns.result (All (Contains shape.names) c.drop_columns.new.self.names)) c.self.view_is known
