use Rattle.std.proofs.Common.{◌∷◌, subst}
use Rattle.vrp_labels.specs.Completion.{AreCompletions}
use Rattle.vrp_labels.proofs.Meetings.{forward_begins}
use Rattle.vrp_labels.proofs.EitherEnd.{begins_links}
use Rattle.vrp_labels.proofs.completions.Completions.may_continue.Goals as goal

pub returns-clause-continues : goal.returns-clause-continues
returns-clause-continues c = λ beginning ending begins cheap.
    let s = c.args.self.now in
    let is : AreCompletions s = subst AreCompletions c.self.view_is c.self.invariant.completions in
    c.links.ensures.none (begins_links s c.args.forward.now beginning (c.args.customer ∷ ending) is.closed cheap (forward_begins s.graph c.args.forward.now beginning begins))
