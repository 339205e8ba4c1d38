use Rattle.std.proofs.Common.{arith, sym, ◌∙◌}
use Rattle.vrp_model.proofs.Fleets.{fleet_none, fleet_some}
use Rattle.vrp_model.proofs.customers.fleet.trucks_of.Goals as goal

pub returns-in-Some : goal.returns-in-Some
returns-in-Some c =
    let p = c.args.instance.now in
    fleet_some p c.in-Some.trucks c.min.result (sym c.trucks.ensures.value ∙ c.in-Some.is) (omega (arith, c.min.ensures, c.customers-customers.ensures.value))

pub returns-in-None : goal.returns-in-None
returns-in-None c =
    let p = c.args.instance.now in
    fleet_none p c.customers-customers.result (sym c.trucks.ensures.value ∙ c.in-None.is) (omega (arith, c.customers-customers.ensures.value))
