use Rattle.std.proofs.Common.{◌≡◌, inl, inr, sym, ◌∙◌, ap, subst, arith, get_or}
use Rattle.std.specs.Int.{bit_at}
use Rattle.std.proofs.lemmas.Bool.{cases_lt, false≢true}
use Rattle.vrp_labels.proofs.Endings.{not_set}
use Rattle.vrp_labels.proofs.PlaceSets.{with_one, with_other}
use Rattle.vrp_labels.proofs.graph.RouteGraph.leaders_of.Goals.{then-follows, else-follows}
use Rattle.vrp_labels.proofs.graph.RouteGraph.leaders_of.Goals as goal

pub loop-from-preserved : goal.loop-from-preserved
loop-from-preserved c =
    let from = c.loop-from.from in
    let set = c.loop-from.set in
    let followers = c.args.self.now.followers in
    let place = c.args.place in
    let inv = c.loop-from.invariant in
    elim c.if-follows.branch [
      | then-follows w ↦
          let next = w.with-set.result in
          let is = w.with-set.ensures in
          let here : bit_at (get_or followers from 0) place ≡ 1 = c.follows.ensures.0 w.if-follows.true in
          record {
            done = λ k less. ap (λ n. bit_at n k) w.set-is ∙ elim (cases_lt k from) [
              | inl before ↦ with_other set from next k is (omega (arith, before)) ∙ inv.done k before
              | inr last ↦
                  let same : from ≡ k = omega (arith, less, last) in
                  subst (λ n. bit_at next n ≡ bit_at (get_or followers n 0) place) same (with_one set from next is ∙ sym here)
            ];
            rest = λ k past. ap (λ n. bit_at n k) w.set-is ∙ (with_other set from next k is (omega (arith, past)) ∙ inv.rest k (omega (arith, past)));
          }
      | else-follows w ↦ record {
        done = λ k less. ap (λ n. bit_at n k) w.set-is ∙ elim (cases_lt k from) [
          | inl before ↦ inv.done k before
          | inr last ↦
              let same : from ≡ k = omega (arith, less, last) in
              subst (λ n. bit_at set n ≡ bit_at (get_or followers n 0) place) same
              (inv.rest from (omega arith) ∙ sym (not_set (get_or followers from 0) place (λ follows. false≢true (sym w.if-follows.false ∙ c.follows.ensures.1 follows))))
        ];
        rest = λ k past. ap (λ n. bit_at n k) w.set-is ∙ inv.rest k (omega (arith, past));
      }
    ]
