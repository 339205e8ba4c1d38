use Rattle.std.proofs.Common.{arith}
use Rattle.std.proofs.lemmas.Nat.Gcd.{dvd-zero}
use Rattle.vrp_bound.proofs.WholeUnits.{divided_more, divides_more, greatest_of_all}
use Rattle.vrp_bound.proofs.units.unit_of.Goals as goal

pub loop-customer-init : goal.loop-customer-init
loop-customer-init c = record { divides = λ k lt. absurd (omega (arith, lt)); divided = λ other all. dvd-zero other }

pub loop-customer-preserved : goal.loop-customer-preserved
loop-customer-preserved c =
    let p = c.args.scope.instance.now in
    let among = c.args.scope.customers.now in
    let k = c.loop-customer.customer-index in
    let unit = c.loop-customer.unit in
    record {
      divides = divides_more p among k unit c.demand.result c.gcd-unit.result c.gcd-unit.ensures c.demand.ensures.value c.loop-customer.invariant.divides;
      divided = divided_more p among k unit c.demand.result c.gcd-unit.result c.gcd-unit.ensures c.demand.ensures.value c.loop-customer.invariant.divided;
    }

pub returns : goal.returns
returns c =
    let so_far = c.loop-customer.invariant in
    greatest_of_all c.args.scope.instance.now c.args.scope.customers.now c.loop-customer.customer-index c.loop-customer.unit c.max.result (omega arith) c.loop-customer-test.false so_far.divides so_far.divided (omega (arith, c.max.ensures))
