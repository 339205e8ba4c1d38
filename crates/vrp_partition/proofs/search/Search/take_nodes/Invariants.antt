use Rattle.std.proofs.Common.{◌≡◌, ◌++◌, ℕ, List}
use Rattle.vrp_partition.specs.Branching.{IsSearched}
use Rattle.vrp_partition.specs.declared.route.Route.{Route}
use Rattle.vrp_partition.proofs.search.Search.take_nodes.Given as goal

abbrev pub invariant-loop : goal.invariant-loop
invariant-loop g l = record {
  cost : l.self.cost ≡ l.fn.self.cost;
  searched : (pool : List Route) (customers trucks fewest incumbent : ℕ) → IsSearched pool customers trucks fewest incumbent l.fn.self l.fn.self.open_nodes → IsSearched pool customers trucks fewest incumbent l.self (l.self.open_nodes ++ l.nodes.items);
}
