use Rattle.std.proofs.Common.{◌≤◌, ap, arith, subst}
use Rattle.std.proofs.lemmas.Result.{IfOk-weaker}
use Rattle.vrp_labels.specs.Completion.{AreCompletions, CompletionsOf}
use Rattle.vrp_labels.specs.Fixing.{AreMarked, IsEven}
use Rattle.vrp_labels.specs.declared.fixing.Side.TheVariants.{Endings}
use Rattle.vrp_labels.proofs.MarkedArcs.{keeps_even, marked_alive}
use Rattle.vrp_labels.proofs.completions.Completions.useful_arcs.Goals as goal

pub returns-clause-keeps : goal.returns-clause-keeps
returns-clause-keeps c =
    let s = c.args.self.now in
    let is : AreCompletions s = subst AreCompletions c.self.view_is c.self.invariant.completions in
    let even : IsEven s.graph = record { round = c.requires.round; both = c.requires.both } in
    let some : 1 ≤ s.graph.folded.places = omega (arith, ap (λ (s : CompletionsOf). s.graph.folded.places) c.self.view_is, c.places-places.ensures.known.some_places) in
    IfOk-weaker c.linked_arcs.result _ _ (λ followers marks. keeps_even s followers.items even some is (subst (λ (t : CompletionsOf). AreMarked s Endings t.kept followers.items) c.self.view_is marks)) c.linked_arcs.ensures

pub returns-clause-alive : goal.returns-clause-alive
returns-clause-alive c = IfOk-weaker c.linked_arcs.result _ _ (λ followers marks. marked_alive c.args.self.now Endings c.self.inside.kept followers.items marks) c.linked_arcs.ensures
