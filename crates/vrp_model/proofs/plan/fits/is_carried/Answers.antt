use Rattle.std.proofs.Common.{arith}
use Rattle.std.proofs.lemmas.List.Sums.{sum_by_more_le}
use Rattle.vrp_model.specs.Problem.{demand_of}
use Rattle.vrp_model.proofs.plan.fits.is_carried.Goals as goal

pub returns-then-load-capacity : goal.returns-then-load-capacity
returns-then-load-capacity c =
    let p = c.args.instance.now in
    let stops = c.args.stops.now in (
      λ never. absurd (cc),
      λ carried. absurd (omega (arith, carried, sum_by_more_le (demand_of p) stops c.loop-stop.stop-index 0 c.loop-stop-test.true, c.loop-stop.invariant.0, c.demand-load.ensures.value, c.if-load-capacity.true)),
    )
