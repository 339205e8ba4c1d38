use Rattle.std.proofs.Common.{pos, get_or, length, refl, arith, to_z, w64}
use Rattle.std.proofs.lemmas.Int.{ints}
use Rattle.vrp_duals.proofs.ArcSteps.{added, range_step}
use Rattle.vrp_duals.proofs.sums.price_sum.Goals as goal

pub loop-place-preserved : goal.loop-place-preserved
loop-place-preserved c =
    let xs = c.args.prices.now in
    let i = c.loop-place.place in
    let x = get_or xs i (pos 0) in
    let small = c.requires.small i (pos 0) c.loop-place-test.true in
    let step = range_step (λ j. get_or xs j (pos 0)) i (length xs) c.loop-place-test.true in
    let sum = added c.loop-place.sum-bits (to_z w64 c.loop-place.sum-bits) x refl (omega (arith, small, c.loop-place.invariant.small, c.requires.few)) in
    record {
      value = omega (arith, ints, step, sum, c.loop-place.invariant.value);
      small = omega (arith, ints, sum, small, c.loop-place.invariant.small);
    }
