use Rattle.std.proofs.Common.{◌≡◌, length, arith}
use Rattle.std.proofs.lemmas.Grind.{common_steps}
use Rattle.std.proofs.lemmas.Int.{ints}
use Rattle.vrp_model.specs.Problem.{place_count}
use Rattle.vrp_bound_prices.proofs.InUnits.{all_in_units, demands_fit}
use Rattle.vrp_bound_prices.proofs.amounts.demands_in_units.Goals as goal

pub returns-clause-units : goal.returns-clause-units
returns-clause-units c =
    let count : length c.loop-index.demands.items ≡ place_count c.args.instance.now = grind (arith, common_steps) in
    all_in_units c.args.instance.now c.args.unit c.loop-index.demands.items count c.loop-index.invariant.units

pub returns-clause-fitting : goal.returns-clause-fitting
returns-clause-fitting c =
    let count : length c.loop-index.demands.items ≡ place_count c.args.instance.now = grind (arith, common_steps) in
    demands_fit c.args.instance.now c.args.unit c.loop-index.demands.items c.requires.some c.customers-index-end.ensures.problem count c.loop-index.invariant.depot c.loop-index.invariant.units

pub loop-index-preserved : goal.loop-index-preserved
loop-index-preserved c = grind (ints, arith, common_steps)
