use Rattle.std.proofs.Common.{◌∙◌, sym, arith}
use Rattle.std.proofs.lemmas.Nat.{pow-add, pow_below}
use Rattle.vrp_model.specs.NgSets.{recalls}
use Rattle.vrp_model.proofs.Recalled.{bit_cleared, bit_set}
use Rattle.vrp_model.proofs.ng_sets.ng_set_from.Goals.{else-recalled-2, then-recalled-2}
use Rattle.vrp_model.proofs.ng_sets.ng_set_from.Goals as goal

pub overflow_mul-bit : goal.overflow_mul-bit
overflow_mul-bit c = omega (arith, pow_below c.loop-customer.customer-index 7 (omega arith))

pub loop-customer-preserved : goal.loop-customer-preserved
loop-customer-preserved c =
    let test = recalls c.args.near_stop.now c.args.stop c.args.ng_set in
    let i = c.loop-customer.customer-index in
    elim c.if-recalled-2.branch [
      | then-recalled-2 w ↦ record {
        so_far = bit_set test c.args.near_at.now i c.loop-customer.bits c.loop-customer.bit c.if-recalled-2.bits c.loop-customer-test.true (sym c.recalled-in-loop-customer.ensures ∙ w.if-recalled-2.true) w.bits-is c.loop-customer.invariant.so_far;
        below = omega (arith, w.bits-is, c.loop-customer.invariant.below);
        power = omega (arith, pow-add 2 i 1, c.loop-customer.invariant.power);
      }
      | else-recalled-2 w ↦ record {
        so_far = bit_cleared test c.args.near_at.now i c.loop-customer.bits c.loop-customer.bit c.if-recalled-2.bits c.loop-customer-test.true (sym c.recalled-in-loop-customer.ensures ∙ w.if-recalled-2.false) w.bits-is c.loop-customer.invariant.so_far;
        below = omega (arith, w.bits-is, c.loop-customer.invariant.below);
        power = omega (arith, pow-add 2 i 1, c.loop-customer.invariant.power);
      }
    ]
