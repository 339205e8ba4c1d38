use Rattle.std.proofs.Common.{◌∙◌, IfSome, List, Option, sym, subst}
use Rattle.std.specs.List.{All}
use Rattle.vrp_duals.specs.Duals.{IsNeededFor}
use Rattle.vrp_duals.specs.declared.rows.EntryRow.{EntryRow}
use Rattle.vrp_labels.specs.Graph.{GraphOf, graph_of}
use Rattle.vrp_priced_routes.specs.Priced.{IsPriced}
use Rattle.vrp_priced_routes.specs.Units.{CarryRoutes}
use Rattle.vrp_priced_routes.specs.declared.units.UnitDemands.{UnitDemands}
use Rattle.vrp_priced_routes.proofs.PassSteps.{priced_made}
use Rattle.vrp_priced_routes.proofs.priced_graph.PricedGraph.new.Goals as goal

pub invariant_of-result : goal.invariant_of-result
invariant_of-result c =
    let a = c.args.arcs.now in
    let p = c.instance-instance.result.now in
    let d = c.args.duals.now in
    let r = c.range-range.result in
    let demands = c.in-Some.units.demands.items in
    let capacity = c.in-Some.units.capacity in
    let made = graph_of c.in_ok-fold.field-0 demands capacity c.in_ok-from_slice.field-0.items c.in_ok-from_slice-2.field-0.items in
    let carry : CarryRoutes p demands capacity = subst (λ (o : Option UnitDemands). IfSome o (λ units. CarryRoutes p units.demands.items units.capacity)) c.in-Some.is c.in_ok-units.ensures.routes in
    let needed : All (IsNeededFor p r.least_routes r.most_routes) d.entries = subst (λ (rows : List EntryRow). All (IsNeededFor p r.least_routes r.most_routes) rows) c.entries.ensures (c.are_needed.ensures.0 c.if-not-are_needed.false) in
    subst (λ (g : GraphOf). IsPriced (record { problem = p; range = r; duals = d; graph = g })) (sym c.in-Some-new.ensures.value)
    (priced_made a d made p r c.instance-instance.ensures.alive c.instance-instance.ensures.value c.range-range.ensures (c.in_ok-from_slice-2.ensures.items ∙ c.followers.ensures) carry c.requires c.in_ok-fold.ensures needed)
