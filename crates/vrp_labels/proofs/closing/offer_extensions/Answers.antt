use Rattle.std.proofs.Common.{◌≡◌, ◌+◌, ◌<◌, ◌∙◌, ap, arith, get_or, subst, sym}
use Rattle.std.specs.Int.{bit_at}
use Rattle.std.proofs.lemmas.Bool.{false≢true}
use Rattle.std.proofs.lemmas.List.{get_or_default}
use Rattle.vrp_labels.specs.Closing.{AreOffered, ArePending, pushed}
use Rattle.vrp_labels.specs.Label.{IsLabelOf, extended_by}
use Rattle.vrp_labels.specs.declared.label.Label.{Label}
use Rattle.vrp_labels.proofs.ClosingSteps.{offered_not, offered_one, pending_pushed}
use Rattle.vrp_labels.proofs.closing.offer_extensions.Goals.{then-contains+then-may_extend+in-Some+in_ok-push, then-contains+then-may_extend+in_default, else-contains, else-contains-via-then-contains+else-may_extend, else-contains-via-else-contains}
use Rattle.vrp_labels.proofs.closing.offer_extensions.Goals as goal

pub loop-j-preserved : goal.loop-j-preserved
loop-j-preserved c =
    let g = c.args.graph.now in
    let gap = c.args.onward.now.gap in
    let label = c.args.label.now in
    let j = c.loop-j.j in
    let old = c.args.pending.now in
    let new = c.loop-j.pending in
    let items = c.args.onward.now.leaders.items in
    let leaders : c.index-leaders.result.now ≡ get_or items label.at 0 = c.index-leaders.ensures ∙ get_or_default items label.at c.index-leaders.result.now 0 (omega (arith, c.requires.label.place, c.requires.leaders.long)) in
    elim c.if-contains.branch [
      | then-contains+then-may_extend+in-Some+in_ok-push w ↦
          let made = w.in-Some.ensures.value in
          let is = subst (IsLabelOf g) made w.in-Some.ensures.label in
          let heavier = subst (λ (l : Label). label.load < l.load) made w.in-Some.ensures.heavier in
          let after : c.if-contains.pending ≡ pushed new (extended_by g label j).load (extended_by g label j) =
          w.pending-is ∙ w.in_ok-push.ensures ∙ ap (λ (l : Label). pushed new l.load l) made in
          record {
            offered = subst (AreOffered g gap label (j + 1) old) (sym after) (offered_one g gap label j old new c.loop-j.invariant.offered c.loop-j.invariant.pending is heavier);
            pending = subst (ArePending g) (sym after) (pending_pushed g new (extended_by g label j) c.loop-j.invariant.pending is);
          }
      | then-contains+then-may_extend+in_default w ↦ record {
        offered = subst (AreOffered g gap label (j + 1) old) (sym w.pending-is) (offered_not g gap label j old new c.loop-j.invariant.offered (λ may. w.in_default.ensures.beyond));
        pending = subst (ArePending g) (sym w.pending-is) c.loop-j.invariant.pending;
      }
      | else-contains w ↦ record {
        offered = subst (AreOffered g gap label (j + 1) old) (sym w.pending-is) (offered_not g gap label j old new c.loop-j.invariant.offered (λ may. absurd (elim w.else-contains.branch [
          | else-contains-via-then-contains+else-may_extend v ↦ false≢true (sym v.if-may_extend.false ∙ v.may_extend.ensures.1 may)
          | else-contains-via-else-contains v ↦ false≢true (sym v.if-contains.false ∙ c.contains.ensures.1 (ap (λ n. bit_at n j) leaders ∙ (c.requires.leaders.each label.at j c.requires.label.place may.place ∙ may.alive)))
        ])));
        pending = subst (ArePending g) (sym w.pending-is) c.loop-j.invariant.pending;
      }
    ]
