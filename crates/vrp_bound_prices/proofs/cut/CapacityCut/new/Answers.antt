use Rattle.std.proofs.Common.{length, sym, ap, ◌∙◌}
use Rattle.vrp_model.specs.Route.{load_of}
use Rattle.vrp_bound.specs.Capacity.{IsTrucks}
use Rattle.vrp_bound_prices.specs.CapacityCut.{marked}
use Rattle.vrp_bound_prices.proofs.MarkedCustomers.{marked_cut}
use Rattle.vrp_bound_prices.proofs.cut.CapacityCut.new.Goals as goal

pub returns-clause-cut : goal.returns-clause-cut
returns-clause-cut c =
    let p = c.args.instance.now in
    let marks = c.args.inside.items in
    let carry : IsTrucks p.capacity (load_of p (marked marks)) c.trucks_for-trucks.result = rw c.as_slice.ensures.value at c.trucks_for-trucks.ensures.carry in
    marked_cut p marks c.trucks_for-trucks.result c.args.cut_price (ap length (sym c.as_slice.ensures.value) ∙ c.as_slice.ensures.len ∙ c.requires.one_each) carry
