use Rattle.std.proofs.Common.{◌≡◌, ◌∙◌, ◌+◌, List, ◌∷◌, ap, drop, length, subst, sym, refl, arith}
use Rattle.std.specs.List.{All}
use Rattle.std.proofs.lemmas.List.{drop_more}
use Rattle.vrp_labels.specs.Closing.{IsClosing, pushed}
use Rattle.vrp_labels.specs.Label.{IsLabelOf}
use Rattle.vrp_labels.specs.declared.label.Label.{Label}
use Rattle.vrp_labels.specs.declared.runs.Runs.{Runs}
use Rattle.vrp_labels.proofs.ClosingSteps.{drop_all, in_hand_here, in_kept, one_dominated, one_kept, dominated_by}
use Rattle.vrp_labels.proofs.closing.keep_undominated.Goals.{then-not-is_dominated+in_ok-note+in_ok-offered+in_ok-push+else-more-room, else-not-is_dominated}
use Rattle.vrp_labels.proofs.closing.keep_undominated.Goals as goal

pub get-pile-requires : goal.get-pile-requires
get-pile-requires c =
    let (from, start) = c.requires.closing in
    let is = c.loop-label.invariant.closing from start in
    let mine = in_hand_here c.args.graph.now c.args.onward.now.gap from c.args.hand.now c.loop-label.label-index c.loop-label.kept c.loop-label.pending c.label-item.result c.loop-label-test.true c.label-item.is is in
    omega (arith, mine.0.place, is.are_kept.long)

pub push-requires : goal.push-requires
push-requires c =
    let (from, start) = c.requires.closing in
    let is = c.loop-label.invariant.closing from start in
    let mine = in_hand_here c.args.graph.now c.args.onward.now.gap from c.args.hand.now c.loop-label.label-index c.loop-label.kept c.loop-label.pending c.label-item.result c.loop-label-test.true c.label-item.is is in
    omega (arith, mine.0.place, is.are_kept.long)

pub is_dominated-requires : goal.is_dominated-requires
is_dominated-requires c =
    let (from, start) = c.requires.closing in
    let is = c.loop-label.invariant.closing from start in
    let at = c.label-item.result.at in
    subst (λ (p : List Label). All (λ other. IsLabelOf c.args.graph.now other × (other.at ≡ at)) p) (sym c.get-pile.ensures) (in_kept c.args.graph.now at c.loop-label.kept is.are_kept)

pub offer_extensions-requires-clause-pending : goal.offer_extensions-requires-clause-pending
offer_extensions-requires-clause-pending c = let (from, start) = c.requires.closing in (c.loop-label.invariant.closing from start).are_pending

pub offer_extensions-requires-clause-label : goal.offer_extensions-requires-clause-label
offer_extensions-requires-clause-label c =
    let (from, start) = c.requires.closing in
    (in_hand_here c.args.graph.now c.args.onward.now.gap from c.args.hand.now c.loop-label.label-index c.loop-label.kept c.loop-label.pending c.label-item.result c.loop-label-test.true c.label-item.is (c.loop-label.invariant.closing from start)).0

pub loop-label-preserved : goal.loop-label-preserved
loop-label-preserved c = record {
  closing = λ from start.
      let g = c.args.graph.now in
      let hand = c.args.hand.now in
      let i = c.loop-label.label-index in
      let x = c.label-item.result in
      let left = drop (i + 1) hand in
      let kept = c.loop-label.kept in
      let pending = c.loop-label.pending in
      let here : IsClosing g c.args.onward.now.gap from (x ∷ left) kept pending = subst (λ (h : List Label). IsClosing g c.args.onward.now.gap from h kept pending) (drop_more hand i x c.loop-label-test.true ∙ ap (λ (l : Label). l ∷ left) (sym c.label-item.is)) (c.loop-label.invariant.closing from start) in
      elim c.if-not-is_dominated.branch [
        | then-not-is_dominated+in_ok-note+in_ok-offered+in_ok-push+else-more-room w ↦
            let later = w.offer_extensions.new.pending in
            let after = one_kept g c.args.onward.now.gap from x left kept pending later w.in_ok-offered.ensures here in
            subst (λ (k : List (List Label)). IsClosing g c.args.onward.now.gap from left k c.if-not-is_dominated.pending) (sym (w.kept-is ∙ w.in_ok-push.ensures))
            (subst (λ (p : List (List Label)). IsClosing g c.args.onward.now.gap from left (pushed kept x.at x) p) (sym w.pending-is) after)
        | else-not-is_dominated w ↦
            let dominated = dominated_by g kept x c.get-pile.result.now c.get-pile.ensures (w.if-not-is_dominated.ensures refl) in
            subst (λ (k : List (List Label)). IsClosing g c.args.onward.now.gap from left k c.if-not-is_dominated.pending) (sym w.kept-is)
            (subst (λ (p : List (List Label)). IsClosing g c.args.onward.now.gap from left kept p) (sym w.pending-is) (one_dominated g c.args.onward.now.gap from x left kept pending dominated here))
      ];
  runs = elim c.if-not-is_dominated.branch [
    | then-not-is_dominated+in_ok-note+in_ok-offered+in_ok-push+else-more-room w ↦ ap (λ (r : Runs). length r.by_place.items) w.runs-is ∙ (w.in_ok-note.ensures ∙ c.loop-label.invariant.runs)
    | else-not-is_dominated w ↦ ap (λ (r : Runs). length r.by_place.items) w.runs-is ∙ c.loop-label.invariant.runs
  ];
}

pub returns-clause-closing : goal.returns-clause-closing
returns-clause-closing c = λ from start.
    subst (λ (h : List Label). IsClosing c.args.graph.now c.args.onward.now.gap from h c.loop-label.kept c.loop-label.pending) (drop_all c.args.hand.now c.loop-label.label-index c.loop-label-test.false) (c.loop-label.invariant.closing from start)
