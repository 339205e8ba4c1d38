use Rattle.std.proofs.Common.{All, Contains, subst}
use Rattle.vrp_linear_program.specs.Shape.{Shape}
use Rattle.vrp_linear_program.proofs.program.LinearProgram.drop_columns.Goals as goal

pub returns-clause-names : goal.returns-clause-names
returns-clause-names c =
    let known = subst (λ names. All (Contains names) c.in_ok-names.names.items) c.as_slice.ensures.value c.in_ok-names.ensures.known in
    subst (λ (shape : Shape). All (Contains shape.names) c.in_ok-names.names.items) c.self.view_is known
