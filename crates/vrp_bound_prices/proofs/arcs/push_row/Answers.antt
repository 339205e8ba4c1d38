use Rattle.std.proofs.Common.{◌≡◌, ◌+◌, ◌*◌, length, arith}
use Rattle.std.proofs.lemmas.Grind.{common_steps}
use Rattle.vrp_model.specs.Problem.{place_count}
use Rattle.vrp_bound_prices.proofs.PricedRows.{arcs_more}
use Rattle.vrp_bound_prices.proofs.arcs.push_row.Goals as goal

pub loop-to-preserved : goal.loop-to-preserved
loop-to-preserved c =
    let weights = c.loop-to.weights.items in
    let next : length weights ≡ c.args.from * place_count c.args.instance.now + c.loop-to.to = grind (arith, common_steps) in
    record {
      next = omega (arith, c.push_reserved.ensures.len, c.loop-to.invariant.next);
      capacity = omega (arith, c.push_reserved.ensures.capacity, c.loop-to.invariant.capacity);
      so_far =
          rw c.push_reserved.ensures.items
          (arcs_more c.args.instance.now c.args.scale c.args.prices.now c.args.cuts.now weights c.args.from c.loop-to.to c.in-Some.weight next (omega (arith, c.customers-to-end.ensures.value, c.loop-to-test.true, c.loop-to.auto.to-end)) c.in-Some.ensures.arc c.in-Some.ensures.small c.loop-to.invariant.so_far);
    }
