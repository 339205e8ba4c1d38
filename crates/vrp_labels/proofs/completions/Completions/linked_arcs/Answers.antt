use Rattle.std.proofs.Common.{◌≡◌, ◌<◌, ℕ, List, ap, get_or, length, sym, subst, arith}
use Rattle.vrp_labels.specs.Completion.{CompletionsOf}
use Rattle.vrp_labels.specs.Fixing.{Marks}
use Rattle.vrp_duals.proofs.Pushed.{each_push}
use Rattle.vrp_labels.proofs.completions.Completions.linked_arcs.Goals as goal

pub loop-i-preserved : goal.loop-i-preserved
loop-i-preserved c =
    let s = c.args.self.now in
    let piles = c.args.piles.now in
    let side = c.args.side in
    let items = c.loop-i.followers.items in
    let x = c.linked_from.result in
    record {
      long = omega (arith, c.in_ok-push.ensures.len, c.push.new.self.ok.0, c.loop-i.followers.ok.0, c.loop-i.invariant.long);
      each = subst (λ (xs : List ℕ). (k : ℕ) → k < length xs → Marks s side piles k (get_or xs k 0)) (sym c.in_ok-push.ensures.items)
          (each_push (λ k z. Marks s side piles k z) 0 items x c.loop-i.invariant.each (subst (λ n. Marks s side piles n x) (sym c.loop-i.invariant.long) c.linked_from.ensures));
    }

pub returns : goal.returns
returns c =
    let s = c.args.self.now in
    let all = ap (λ (s : CompletionsOf). s.graph.folded.places) c.self.view_is in
    let long : length c.loop-i.followers.items ≡ s.graph.folded.places = omega (arith, c.loop-i.invariant.long, c.loop-i-test.false, c.loop-i.auto.i-end, c.places-places.ensures.value, all) in
    record { long = long; each = λ i lt. c.loop-i.invariant.each i (omega (arith, lt, long)) }
