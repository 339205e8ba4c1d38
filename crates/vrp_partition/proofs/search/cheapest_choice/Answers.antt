use Rattle.std.proofs.Common.{◌≡◌, [], sym, subst, arith}
use Rattle.vrp_partition.specs.Branching.{IsSearched, SearchState}
use Rattle.vrp_partition.proofs.SearchStates.{ended, nobody, none_counted}
use Rattle.vrp_partition.proofs.search.cheapest_choice.Goals as goal

pub loop-budget-init : goal.loop-budget-init
loop-budget-init g c = record { most = omega arith; searched = c.in_ok-search.ensures c.args.task.now.customers c.args.task.now.fleet.trucks c.args.task.now.least_routes }

pub loop-budget-preserved : goal.loop-budget-preserved
loop-budget-preserved g c = record {
  most = omega (arith, c.saturating_sub.ensures, c.loop-budget.invariant.most);
  searched = c.in_ok-work.ensures c.args.pool.items c.args.task.now.incumbent c.loop-budget.invariant.searched;
}

pub returns-then-budget-eq0-clause-found : goal.returns-then-budget-eq0-clause-found
returns-then-budget-eq0-clause-found g c =
    let pool = c.args.pool.items in
    let trucks = c.args.task.now.fleet.trucks in
    let fewest = c.args.task.now.least_routes in
    let is = subst (λ (s : SearchState). IsSearched pool c.args.task.now.customers trucks fewest c.args.task.now.incumbent s s.open_nodes) (sym c.search.view_is) c.loop-budget.invariant.searched in
    record { most = is.most; attained = is.attained; bound = c.lower_bound-lower_bound.ensures pool c.args.task.now.customers trucks fewest c.args.task.now.incumbent c.loop-budget.invariant.searched }

pub returns-clause-found : goal.returns-clause-found
returns-clause-found g c =
    let pool = c.args.pool.items in
    let trucks = c.args.task.now.fleet.trucks in
    let fewest = c.args.task.now.least_routes in
    let is = subst (λ (s : SearchState). IsSearched pool c.args.task.now.customers trucks fewest c.args.task.now.incumbent s s.open_nodes) (sym c.search.view_is) c.loop-budget.invariant.searched in
    let none : c.search.inside.open_nodes.items ≡ [] = nobody c.search.inside.open_nodes.items (omega (arith, none_counted c.search.inside.open_nodes.len c.loop-budget-test.ensures, c.search.inside.open_nodes.ok)) in
    ended pool c.args.task.now.customers trucks fewest c.args.task.now.incumbent _ c.search.inside.open_nodes.items none is
