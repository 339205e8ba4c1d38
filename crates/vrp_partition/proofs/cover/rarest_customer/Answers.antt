use Rattle.std.proofs.Common.{arith, ap, subst, IfSome}
use Rattle.std.specs.Int.{bit_at}
use Rattle.std.proofs.lemmas.Nat.Bits.{bit_at-lt}
use Rattle.vrp_model.specs.CustomerSet.{IsFirst}
use Rattle.vrp_partition.proofs.LowestBits.{lowest_dropped}
use Rattle.vrp_partition.proofs.cover.rarest_customer.Goals as goal

pub loop-customer-init : goal.loop-customer-init
loop-customer-init c =
    let first : IsFirst c.args.unserved c.unwrap-best.result = subst (λ o. IfSome o (IsFirst c.args.unserved)) c.unwrap-best.ensures c.take_first.ensures.first in
    record {
      one = first.stands;
      small = first.within;
      part = λ i. omega (arith, lowest_dropped c.args.unserved c.args.unserved (λ i. omega arith) i, ap (λ n. bit_at n i) c.take_first.ensures.rest);
    }

pub loop-customer-preserved-then-counts-from : goal.loop-customer-preserved-then-counts-from
loop-customer-preserved-then-counts-from c = record {
  one = omega (arith, c.in-Some.ensures.first.stands, c.loop-customer.invariant.part c.in-Some.customer, bit_at-lt c.args.unserved c.in-Some.customer);
  small = c.in-Some.ensures.first.within;
  part = λ i. omega (arith, lowest_dropped c.loop-customer.others c.args.unserved c.loop-customer.invariant.part i, ap (λ n. bit_at n i) c.take_first-in-loop-customer.ensures.rest);
}

pub loop-customer-preserved : goal.loop-customer-preserved
loop-customer-preserved c = record {
  one = c.loop-customer.invariant.one;
  small = c.loop-customer.invariant.small;
  part = λ i. omega (arith, lowest_dropped c.loop-customer.others c.args.unserved c.loop-customer.invariant.part i, ap (λ n. bit_at n i) c.take_first-in-loop-customer.ensures.rest);
}
