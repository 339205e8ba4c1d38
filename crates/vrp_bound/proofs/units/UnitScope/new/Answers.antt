use Rattle.vrp_bound.proofs.WholeUnits.{scope_in}
use Rattle.vrp_bound.proofs.units.UnitScope.new.Goals as goal

pub invariant_of-result : goal.invariant_of-result
invariant_of-result c = record {
  some = c.requires.unit.some;
  counted = c.args.scope.counted;
  of_places = c.requires.places;
  scope = scope_in c.args.unit c.args.scope.instance.now c.args.scope.customers.now c.requires.unit c.requires.scope;
}
