use Rattle.std.proofs.Common.{Ok, IfOk, sym, ◌∙◌, ap, subst}
use Rattle.vrp_partition.specs.Branching.{AreOpened, IsBest, IsEnd, NodeState, SearchState, TakesChoice}
use Rattle.vrp_partition.proofs.SearchStates.{branched, solved}
use Rattle.vrp_partition.proofs.search.Search.absorb.Goals as goal

pub returns-in-Solved-clause-searched : goal.returns-in-Solved-clause-searched
returns-in-Solved-clause-searched g c = λ pool customers trucks fewest incumbent limit rest within is_end is.
    let end = sym (ap (λ (n : NodeState). n.end) c.node.view_is) ∙ (c.in_ok-chosen.was ∙ ap Ok c.in-Solved.is) in
    let at = subst (λ e. IfOk e (IsEnd c.args.node.pool customers trucks fewest limit)) end is_end in
    solved pool customers trucks fewest incumbent limit c.args.self.now c.take_choice.new.self rest c.args.node c.in-Solved.chosen within at
    (subst (λ (s : SearchState). TakesChoice s c.in-Solved.chosen c.take_choice.new.self) c.self.view_is c.take_choice.ensures) is

pub returns-clause-searched : goal.returns-clause-searched
returns-clause-searched g c = λ pool customers trucks fewest incumbent limit rest within is_end is.
    let end = sym (ap (λ (n : NodeState). n.end) c.node.view_is) ∙ (c.in_ok-chosen.was ∙ ap Ok c.in-Branched.is) in
    let at = subst (λ e. IfOk e (IsEnd c.args.node.pool customers trucks fewest limit)) end is_end in
    branched pool customers trucks fewest incumbent limit c.args.self.now c.open_branches.new.self rest c.args.node c.in-Branched.branches within at
    (subst (λ (s : SearchState). IsBest s c.open_branches.new.self) c.self.view_is c.in_ok-open_branches-in-Branched.ensures.best)
    (subst (λ (s : SearchState). AreOpened c.in-Branched.branches s.open_nodes c.open_branches.new.self.open_nodes) c.self.view_is c.in_ok-open_branches-in-Branched.ensures.opened) is
