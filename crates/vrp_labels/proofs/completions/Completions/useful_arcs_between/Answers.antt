use Rattle.std.proofs.Common.{◌≤◌, ap, arith, subst}
use Rattle.std.proofs.lemmas.Result.{IfOk-weaker}
use Rattle.vrp_labels.specs.Completion.{AreCompletions, CompletionsOf}
use Rattle.vrp_labels.specs.Reversal.{IsClosedReversed}
use Rattle.vrp_labels.specs.declared.fixing.Side.TheVariants.{Beginnings}
use Rattle.vrp_labels.proofs.MarkedArcs.{keeps_reversed, marked_alive}
use Rattle.vrp_labels.proofs.Reversed.{kept_reversed}
use Rattle.vrp_labels.proofs.completions.Completions.useful_arcs_between.Goals as goal

pub linked_arcs-requires : goal.linked_arcs-requires
linked_arcs-requires c = kept_reversed c.args.self.now.graph c.requires.reversed c.args.beginnings.now (record { prices = c.requires.is.prices; demands = c.requires.is.demands; capacity = c.requires.is.capacity; near = c.requires.is.near; followers = c.requires.is.followers })
    (record { long = c.requires.are_kept.long; each = c.requires.are_kept.each })

pub returns-clause-keeps : goal.returns-clause-keeps
returns-clause-keeps c =
    let s = c.args.self.now in
    let is : AreCompletions s = subst AreCompletions c.self.view_is c.self.invariant.completions in
    let some : 1 ≤ s.graph.folded.places = omega (arith, ap (λ (s : CompletionsOf). s.graph.folded.places) c.self.view_is, c.places-places.ensures.known.some_places) in
    let reversed : IsClosedReversed s.graph s.gap c.args.beginnings.now = record { reversed = c.requires.reversed; is = c.requires.is; are_kept = c.requires.are_kept; closed = c.requires.closed } in
    IfOk-weaker c.linked_arcs.result _ _ (λ followers marks. keeps_reversed s c.args.beginnings.now followers.items some is reversed marks) c.linked_arcs.ensures

pub returns-clause-alive : goal.returns-clause-alive
returns-clause-alive c = IfOk-weaker c.linked_arcs.result _ _ (λ followers marks. marked_alive c.args.self.now Beginnings c.args.beginnings.now followers.items marks) c.linked_arcs.ensures
