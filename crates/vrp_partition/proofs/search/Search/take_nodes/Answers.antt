use Rattle.std.proofs.Common.{◌++◌, List, refl, sym, ◌∙◌, subst, append-nil}
use Rattle.vrp_partition.specs.Branching.{IsSearched, NodeState}
use Rattle.vrp_partition.proofs.SearchStates.{moved_search}
use Rattle.vrp_partition.proofs.search.Search.take_nodes.Goals as goal

pub loop-init : goal.loop-init
loop-init g c = record {
  cost = refl;
  searched = λ pool customers trucks fewest incumbent is. subst (λ (xs : List NodeState). IsSearched pool customers trucks fewest incumbent c.args.self.now (c.args.self.now.open_nodes ++ xs)) (sym c.in_ok-nodes.ensures.items)
      (subst (λ (xs : List NodeState). IsSearched pool customers trucks fewest incumbent c.args.self.now xs) (sym (append-nil c.args.self.now.open_nodes)) is);
}

pub loop-preserved : goal.loop-preserved
loop-preserved g c = record {
  cost = c.in_ok-take_node.ensures.cost ∙ c.loop.invariant.cost;
  searched = λ pool customers trucks fewest incumbent is. c.in_ok-take_node.ensures.searched pool customers trucks fewest incumbent (c.loop.invariant.searched pool customers trucks fewest incumbent is);
}

pub returns-clause-nodes : goal.returns-clause-nodes
returns-clause-nodes g c = λ pool customers trucks fewest incumbent is.
    moved_search pool customers trucks fewest incumbent c.loop.self c.loop.self.open_nodes c.loop.nodes.items c.spread_out.new.nodes.items c.spread_out.ensures (c.loop.invariant.searched pool customers trucks fewest incumbent is)
