use Rattle.std.proofs.Common.{◌≤◌, take, sym, ap, subst, take_all, arith}
use Rattle.std.specs.List.{All}
use Rattle.std.proofs.lemmas.List.Elements.{All-more, All-weaker}
use Rattle.vrp_partition.specs.Branching.{IsSearched, NodeState, SearchState}
use Rattle.vrp_partition.proofs.SearchStates.{least_bound}
use Rattle.vrp_partition.proofs.search.Search.lower_bound.Goals as goal

pub loop-index-preserved : goal.loop-index-preserved
loop-index-preserved g c =
    let nodes = c.self.inside.open_nodes.items in
    let before = c.loop-index.invariant in
    let fits : NodeState → Type 0 = λ n. c.min-least.result ≤ n.lower_bound in
    let less : c.min-least.result ≤ c.loop-index.least = omega (arith, c.min-least.ensures) in
    record {
      most = omega (arith, less, before.most);
      all = All-more fits nodes c.loop-index.index c.index.result.now (omega (arith, c.loop-index-test.true, c.len-index-end.ensures, c.self.inside.open_nodes.ok)) (All-weaker (λ (n : NodeState). c.loop-index.least ≤ n.lower_bound) fits (λ n within. omega (arith, less, within)) (take c.loop-index.index nodes) before.all)
          (subst fits c.index.ensures (omega (arith, c.min-least.ensures, ap (λ (n : NodeState). n.lower_bound) c.behind-self.view_is)));
    }

pub returns : goal.returns
returns g c = λ pool customers trucks fewest incumbent is.
    let nodes = c.self.inside.open_nodes.items in
    let fits : NodeState → Type 0 = λ n. c.loop-index.least ≤ n.lower_bound in
    let all = subst (All fits) (take_all c.loop-index.index nodes (omega (arith, c.loop-index-test.false, c.len-index-end.ensures, c.self.inside.open_nodes.ok))) c.loop-index.invariant.all in
    least_bound pool customers trucks fewest incumbent _ _ nodes c.loop-index.invariant.most all (subst (λ (s : SearchState). IsSearched pool customers trucks fewest incumbent s s.open_nodes) (sym c.self.view_is) is)
