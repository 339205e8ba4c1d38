use Rattle.std.proofs.Common.{rules, ◌≡◌, ◌++◌, [], List, IfOk, subst, arith}
use Rattle.vrp_partition.specs.Branching.{IsEnd, IsSearched, NodeState}
use Rattle.vrp_partition.proofs.SearchStates.{absorbed, all_but_last}
use Rattle.vrp_partition.proofs.search.Search.absorb_all.Goals as goal

pub loop-node-init : goal.loop-node-init
loop-node-init g c = record {
  falls = omega arith;
  left = λ customers trucks fewest limit all. all;
  searched = λ pool customers trucks fewest incumbent limit within all is. is;
}

pub loop-node-preserved : goal.loop-node-preserved
loop-node-preserved g c =
    let before = c.loop-node.invariant in
    let node = c.in-Some.node in
    let rest = c.pop.new.self.items in
    record {
      falls = omega (arith, c.in_ok-absorb.ensures.falls, before.falls);
      left = λ customers trucks fewest limit all. (all_but_last (λ (n : NodeState). IfOk n.end (IsEnd n.pool customers trucks fewest limit)) c.loop-node.nodes.items rest node c.in-Some.ensures.items (before.left customers trucks fewest limit all)).0;
      searched = λ pool customers trucks fewest incumbent limit within all is.
          let end = (all_but_last (λ (n : NodeState). IfOk n.end (IsEnd n.pool customers trucks fewest limit)) c.loop-node.nodes.items rest node c.in-Some.ensures.items (before.left customers trucks fewest limit all)).1 in
          c.in_ok-absorb.ensures.searched pool customers trucks fewest incumbent limit rest (omega (arith, before.falls, within)) end
          (subst (λ (nodes : List NodeState). IsSearched pool customers trucks fewest incumbent c.loop-node.self (c.loop-node.self.open_nodes ++ nodes)) c.in-Some.ensures.items (before.searched pool customers trucks fewest incumbent limit within all is));
    }

pub returns : goal.returns
returns g c = λ pool customers trucks fewest incumbent limit within all is.
    let none : c.loop-node.nodes.items ≡ [] = search rules in
    absorbed pool customers trucks fewest incumbent c.loop-node.self c.loop-node.self.open_nodes c.loop-node.nodes.items none (c.loop-node.invariant.searched pool customers trucks fewest incumbent limit within all is)
