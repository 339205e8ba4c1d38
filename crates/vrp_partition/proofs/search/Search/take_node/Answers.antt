use Rattle.std.proofs.Common.{◌++◌, List, sym, ◌∙◌, ap, subst}
use Rattle.vrp_partition.specs.Branching.{IsBest, IsSearched, NodeState, SearchState}
use Rattle.vrp_partition.proofs.SearchStates.{taken_none, taken_one}
use Rattle.vrp_partition.proofs.search.Search.take_node.Goals as goal
use Rattle.vrp_partition.proofs.search.Search.take_node.Goals.{in-Some+in_ok-push-in-Some, in-None}

pub returns : goal.returns
returns g c =
    let old = c.args.self.now in
    let taken = c.args.nodes.now.items in
    let rest = c.pop.new.self.items in
    let new : SearchState = record { open_nodes = rest; cost = c.self.inside.best.cost; routes = c.self.inside.best.routes.items } in
    let same : IsBest old new = record { cost = ap (λ (s : SearchState). s.cost) c.self.view_is; routes = ap (λ (s : SearchState). s.routes) c.self.view_is } in
    let nodes_are = ap (λ (s : SearchState). s.open_nodes) c.self.view_is in
    elim c.match-pop.branch [
      | in-Some+in_ok-push-in-Some w ↦ rw (w.result-is, w.nodes-is, w.in_ok-push-in-Some.ensures.items) (record {
        cost = same.cost;
        searched = λ pool customers trucks fewest incumbent is. taken_one pool customers trucks fewest incumbent old new rest taken w.in-Some.node same
            (subst (λ (xs : List NodeState). IsSearched pool customers trucks fewest incumbent old (xs ++ taken)) (sym nodes_are ∙ w.in-Some.ensures.items) is);
      })
      | in-None w ↦ rw (w.result-is, w.nodes-is) (record {
        cost = same.cost;
        searched = λ pool customers trucks fewest incumbent is. taken_none pool customers trucks fewest incumbent old new rest taken same
            (subst (λ (xs : List NodeState). IsSearched pool customers trucks fewest incumbent old (xs ++ taken)) (sym nodes_are ∙ w.in-None.ensures.items) is);
      })
    ]
