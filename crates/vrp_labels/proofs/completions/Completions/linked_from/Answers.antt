use Rattle.std.proofs.Common.{◌≡◌, ◌∙◌, inl, inr, List, ap, get_or, length, sym, subst, arith}
use Rattle.std.specs.List.{All}
use Rattle.std.proofs.lemmas.Bool.{cases_lt}
use Rattle.std.proofs.lemmas.List.{get_or_default}
use Rattle.vrp_labels.specs.Closing.{AreKept}
use Rattle.vrp_labels.specs.Completion.{Links, CompletionsOf}
use Rattle.vrp_labels.specs.Fixing.{read_from}
use Rattle.vrp_labels.specs.Graph.{Follows}
use Rattle.vrp_labels.specs.Label.{IsLabelOf, pile_at, root_label}
use Rattle.vrp_labels.specs.declared.label.Label.{Label}
use Rattle.vrp_labels.proofs.ClosingSteps.{in_kept}
use Rattle.vrp_labels.proofs.completions.Completions.linked_from.Goals as goal

pub read_from-forward-requires : goal.read_from-forward-requires
read_from-forward-requires c =
    let g = c.self.inside.graph.now in
    let i = c.args.i in
    let kept : AreKept g c.args.piles.now = subst (λ (s : CompletionsOf). AreKept s.graph c.args.piles.now) (sym c.self.view_is) (record { long = c.requires.are_kept.long; each = c.requires.are_kept.each }) in
    let all = subst (λ (p : List Label). All (λ label. IsLabelOf g label × (label.at ≡ i)) p) (sym c.get-label-items.ensures) (in_kept g i c.args.piles.now kept) in
    subst (IsLabelOf g) (sym c.label-item.is) (all c.loop-label.label-index c.label-item.result c.loop-label-test.true).0

pub with_links-set-requires-clause-place : goal.with_links-set-requires-clause-place
with_links-set-requires-clause-place c =
    let s = c.args.self.now in
    let i = c.args.i in
    let kept : AreKept s.graph c.args.piles.now = record { long = c.requires.are_kept.long; each = c.requires.are_kept.each } in
    let all = subst (λ (p : List Label). All (λ label. IsLabelOf s.graph label × (label.at ≡ i)) p) (sym c.get-label-items.ensures) (in_kept s.graph i c.args.piles.now kept) in
    let at : c.label-item.result.at ≡ i = subst (λ (l : Label). l.at ≡ i) (sym c.label-item.is) (all c.loop-label.label-index c.label-item.result c.loop-label-test.true).1 in
    omega (arith, at, c.requires.place, c.read_from-forward.ensures.at)

pub loop-label-preserved : goal.loop-label-preserved
loop-label-preserved c =
    let s = c.args.self.now in
    let i = c.args.i in
    let side = c.args.side in
    let pile = pile_at c.args.piles.now i in
    let x = c.label-item.result in
    let index = c.loop-label.label-index in
    let items = c.get-label-items.result.now in
    let inv = c.loop-label.invariant in
    let item : x ≡ get_or pile index root_label = subst (λ (p : List Label). x ≡ get_or p index root_label) c.get-label-items.ensures (c.label-item.is ∙ get_or_default items index x root_label c.loop-label-test.true) in
    let is : c.read_from-forward.result ≡ read_from side s.graph (get_or pile index root_label) =
    c.read_from-forward.ensures.value ∙ (ap (λ (s : CompletionsOf). read_from side s.graph x) c.self.view_is ∙ ap (read_from side s.graph) item) in
    let kept : AreKept s.graph c.args.piles.now = record { long = c.requires.are_kept.long; each = c.requires.are_kept.each } in
    let all = subst (λ (p : List Label). All (λ label. IsLabelOf s.graph label × (label.at ≡ i)) p) (sym c.get-label-items.ensures) (in_kept s.graph i c.args.piles.now kept) in
    let at : x.at ≡ i = subst (λ (l : Label). l.at ≡ i) (sym c.label-item.is) (all index x c.loop-label-test.true).1 in
    record {
      marked = λ k less j lt linked. elim (cases_lt k index) [
        | inl before ↦ c.with_links-set.ensures.still j (inv.marked k before j lt linked)
        | inr last ↦ c.with_links-set.ensures.linked j lt (subst (λ (l : Label). Links s l j) (sym is)
            (subst (λ n. Links s (read_from side s.graph (get_or pile n root_label)) j) (let same : k ≡ index = omega (arith, less, last) in same) linked))
      ];
      alive = λ j set. elim (c.with_links-set.ensures.alive j set) [
        | inl was ↦ inv.alive j was
        | inr follows ↦ subst (λ n. Follows s.graph n j) (c.read_from-forward.ensures.at ∙ at) follows
      ];
    }

pub returns : goal.returns
returns c =
    let s = c.args.self.now in
    let i = c.args.i in
    let side = c.args.side in
    let pile = pile_at c.args.piles.now i in
    record {
      depot = λ none. absurd (c.if-i-eq0.false none);
      linked = λ some label has j lt linked.
          let (k, within, is) = has in
          let long = ap (λ (p : List Label). length p) c.get-label-items.ensures in
          c.loop-label.invariant.marked k (omega (arith, within, long, c.loop-label-test.false)) j lt
          (subst (λ (l : Label). Links s (read_from side s.graph l) j) (sym (get_or_default pile k root_label label within ∙ is)) linked);
      alive = c.loop-label.invariant.alive;
    }
