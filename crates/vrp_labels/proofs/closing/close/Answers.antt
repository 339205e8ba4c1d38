use Rattle.std.proofs.Common.{Option, ℕ, [], length, ◌≡◌, ◌∙◌, ◌+◌, ℤ, subst, arith, to_z, of_z, w64, rules}
use Rattle.std.specs.Prelude.{IfSome}
use Rattle.std.proofs.lemmas.Int.{ints}
use Rattle.vrp_labels.specs.Closing.{AreOffered, IsClosing}
use Rattle.vrp_labels.specs.Label.{IsClosed}
use Rattle.vrp_labels.specs.declared.label.Label.{Label}
use Rattle.vrp_labels.proofs.ClosingSteps.{closed, in_hand_sorted, started}
use Rattle.vrp_labels.proofs.closing.close.Goals as goal

pub loop-load-init : goal.loop-load-init
loop-load-init b c =
    let g = c.args.graph.now in
    let gap = c.in_ok-onward.onward.gap in
    record {
      closing = started g gap c.in_ok-kept.kept c.in_ok-pending.pending c.offer_extensions.new.pending (c.in_ok-kept.ensures.long ∙ c.places.ensures.value) (omega (arith, c.in_ok-pending.ensures.long, c.capacity.ensures.value)) c.in_ok-kept.ensures.none c.in_ok-pending.ensures.none
          (subst (λ (l : Label). AreOffered g gap l g.folded.places c.in_ok-pending.pending c.offer_extensions.new.pending) c.root.ensures c.in_ok-held.ensures);
      runs = c.in_ok-runs.ensures ∙ c.places-2.ensures.value;
    }

-- the labels of the load are in hand, sorted
pub keep_undominated-requires-clause-closing : goal.keep_undominated-requires-clause-closing
keep_undominated-requires-clause-closing b c = (
  c.loop-load.load + 1,
  in_hand_sorted c.args.graph.now c.in_ok-onward.onward.gap c.loop-load.load c.loop-load.kept c.loop-load.pending c.take-hand.new.self c.take-hand.result.items c.sort_unstable_by_key.new.self.items c.deref.result.now
      (omega (arith, c.loop-load-test.true, c.capacity-load-end.ensures.value, c.loop-load.invariant.closing.are_pending.long)) c.take-hand.ensures.left c.take-hand.ensures.taken c.sort_unstable_by_key.ensures.permutation c.deref.ensures.value c.loop-load.invariant.closing,
)

pub loop-load-preserved : goal.loop-load-preserved
loop-load-preserved b c =
    let g = c.args.graph.now in
    let gap = c.in_ok-onward.onward.gap in
    let hand = c.deref.result.now in
    record {
      closing = subst (λ (more : Option ℕ). IfSome more (λ _. (from : ℕ) → IsClosing g gap from hand c.loop-load.kept c.take-hand.new.self → IsClosing g gap from [] c.keep_undominated.new.kept c.keep_undominated.new.pending))
          c.in-Some.is c.in_ok-more.ensures.closing (c.loop-load.load + 1)
          (in_hand_sorted g gap c.loop-load.load c.loop-load.kept c.loop-load.pending c.take-hand.new.self c.take-hand.result.items c.sort_unstable_by_key.new.self.items hand
          (omega (arith, c.loop-load-test.true, c.capacity-load-end.ensures.value, c.loop-load.invariant.closing.are_pending.long)) c.take-hand.ensures.left c.take-hand.ensures.taken c.sort_unstable_by_key.ensures.permutation c.deref.ensures.value c.loop-load.invariant.closing);
      runs = subst (λ (more : Option ℕ). IfSome more (λ _. length c.keep_undominated.new.runs.by_place.items ≡ g.folded.places)) c.in-Some.is c.in_ok-more.ensures.runs;
    }

pub returns-clause-closed : goal.returns-clause-closed
returns-clause-closed b c =
    let same : to_z w64 (of_z w64 c.args.gap) ≡ c.args.gap = search (rules, ints) in
    subst (λ (z : ℤ). IsClosed c.args.graph.now z c.loop-load.kept) (c.in_ok-onward.ensures.gap ∙ same)
    (closed c.args.graph.now c.in_ok-onward.onward.gap c.loop-load.load c.loop-load.kept c.loop-load.pending (omega (arith, c.loop-load-test.false, c.capacity-load-end.ensures.value)) c.loop-load.invariant.closing)
