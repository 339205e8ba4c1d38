use Rattle.std.proofs.Common.{arith}
use Rattle.vrp_bound.proofs.TableSizes.{few_customers, places_of}
use Rattle.vrp_bound.proofs.scope.Scope.new.Goals as goal

pub invariant_of-result : goal.invariant_of-result
invariant_of-result c = record {
  problem = c.customers.ensures.problem;
  counted = omega (arith, c.from.ensures, c.customers.ensures.value);
  few = few_customers c.args.instance.now c.args.customers.now c.customers.ensures.problem c.requires.rising c.requires.customers;
  known = places_of c.args.instance.now c.args.customers.now c.customers.ensures.problem c.requires.customers;
}
