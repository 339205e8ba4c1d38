use Rattle.std.proofs.Common.{sym, subst}
use Rattle.vrp_priced_routes.specs.Arcs.{ArcsOf}
use Rattle.vrp_priced_routes.specs.Priced.{BoundsPlansIn}
use Rattle.vrp_column_generation.proofs.AllPlans.{bounds_part}
use Rattle.vrp_column_generation.proofs.progress.Progress.part.Goals as goal

pub invariant_of-result-clause-bounds : goal.invariant_of-result-clause-bounds
invariant_of-result-clause-bounds c =
    let own = c.args.self.now in
    subst (λ (a : ArcsOf). BoundsPlansIn a.problem a.range own.bound) (sym c.in_ok-part.ensures)
    (bounds_part own.arcs.problem c.args.range own.arcs.range own.bound c.requires own.bounds)
