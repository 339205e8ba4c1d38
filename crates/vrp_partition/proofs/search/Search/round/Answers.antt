use Rattle.std.proofs.Common.{◌≤◌, List, IfOk, get_or, sym, ap, subst, arith}
use Rattle.vrp_partition.specs.Branching.{IsEnd, SearchState}
use Rattle.vrp_partition.specs.Prices.{load_of}
use Rattle.vrp_partition.specs.declared.route.Route.{Route}
use Rattle.vrp_partition.proofs.SearchStates.{looked_search, nodes_fit}
use Rattle.vrp_partition.proofs.search.Search.round.Goals as goal

pub looked_at-nodes-requires-clause-can : goal.looked_at-nodes-requires-clause-can
looked_at-nodes-requires-clause-can g c κs within =
    let given = c.requires.search in
    let task = c.args.task.now in
    let fits : Route → Type 0 = λ r. load_of task.fleet.demands.now r.set ≤ task.fleet.capacity in
    let taken = c.in_ok-nodes.ensures.nodes given.0 task.customers task.fleet.trucks task.least_routes given.1 given.4 in
    λ i d lt. record {
      len = c.requires.len;
      fit = nodes_fit given.0 task.customers task.fleet.trucks task.least_routes given.1 c.take_nodes.new.self c.take_nodes.new.self.open_nodes c.in_ok-nodes.nodes.items fits given.2 taken i d lt;
      incumbent = omega (arith, given.3, given.4.most, ap (λ (s : SearchState). s.cost) c.self.view_is);
    }

pub returns : goal.returns
returns g c = λ pool incumbent is.
    let task = c.args.task.now in
    let limit = c.self.inside.best.cost in
    let new = c.looked_at-nodes.result.items in
    let taken = c.in_ok-nodes.ensures.nodes pool task.customers task.fleet.trucks task.least_routes incumbent is in
    let looked = looked_search pool task.customers task.fleet.trucks task.least_routes incumbent c.take_nodes.new.self c.take_nodes.new.self.open_nodes c.in_ok-nodes.nodes.items new _ c.looked_at-nodes.ensures taken in
    c.in_ok-work.ensures pool task.customers task.fleet.trucks task.least_routes incumbent limit (omega (arith, c.in_ok-nodes.ensures.cost, ap (λ (s : SearchState). s.cost) c.self.view_is))
    (λ k d lt.
    let at = c.looked_at-nodes.ensures.each k d (omega (arith, lt, c.looked_at-nodes.ensures.many)) in
    subst (λ (routes : List Route). IfOk (get_or new k d).end (IsEnd routes task.customers task.fleet.trucks task.least_routes limit)) (sym at.pool) at.end) looked
