use Rattle.std.proofs.Common.{subst, MatchOption}
use Rattle.vrp_bound.specs.Tables.{AreMade, TablesOf}
use Rattle.vrp_bound.proofs.CellAnswers.{shape_made}
use Rattle.vrp_bound.proofs.tables.Tables.shape.Goals as goal

pub returns : goal.returns
returns c =
    let held = c.self.inside.completions in
    subst (λ (t : TablesOf). MatchOption c.shape.result (AreMade t.problem t.among → ⊥) (λ _. AreMade t.problem t.among)) c.self.view_is
    (shape_made held.instance.now held.customers.items held.cells c.shape.result c.shape.ensures c.self.invariant)
