use Rattle.std.proofs.Common.{subst}
use Rattle.vrp_bound.specs.Tables.{IsBound, TablesOf}
use Rattle.vrp_bound.proofs.tables.Tables.q_bound.Goals as goal

pub returns-clause-bound : goal.returns-clause-bound
returns-clause-bound c =
    subst (λ (t : TablesOf). IsBound t.problem t.among c.args.at c.args.load c.args.rest c.bound.result) c.self.view_is
    c.bound.ensures.bound
