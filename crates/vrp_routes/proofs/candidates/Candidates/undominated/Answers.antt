use Rattle.std.proofs.Common.{◌≡◌, ◌∙◌, ◌+◌, ◌<◌, length, get_or, ap, sym, subst, arith}
use Rattle.std.proofs.lemmas.Bool.{false≢true}
use Rattle.std.proofs.lemmas.List.{get_or_read, length_push}
use Rattle.vrp_routes.proofs.Undominated.{KeepsSome, keeps_all, keeps_not, keeps_one}
use Rattle.vrp_routes.proofs.candidates.Candidates.undominated.Goals as goal
use Rattle.vrp_routes.proofs.candidates.Candidates.undominated.Goals.{then-keeps+in_ok-push, else-keeps}

pub loop-at-preserved : goal.loop-at-preserved
loop-at-preserved g c =
    let found = c.args.self.now in
    let at = c.loop-at.at in
    let old = c.loop-at.labels.items in
    let lt : at < length found.labels.items = omega (arith, c.loop-at-test.true, c.len-at-end.ensures) in
    elim c.if-keeps.branch [
      | then-keeps+in_ok-push w ↦
          let label = w.index.result.now in
          let new = w.push.new.self.items in
          let read : label ≡ get_or found.labels.items at label = get_or_read found.labels.items at label lt w.index.ensures label in
          let items = w.in_ok-push.ensures.items in
          record {
            keeps = subst (λ v. KeepsSome found (at + 1) v.items) (sym w.labels-is) (keeps_one found at old new label c.loop-at.invariant.keeps lt read items);
            few = omega (arith, c.loop-at.invariant.few, ap (λ v. length v.items) w.labels-is, ap length items, length_push old label);
          }
      | else-keeps w ↦ record {
        keeps = subst (λ v. KeepsSome found (at + 1) v.items) (sym w.labels-is) (keeps_not found at old c.loop-at.invariant.keeps (λ kept. false≢true (sym w.if-keeps.false ∙ c.keeps.ensures.1 kept)));
        few = omega (arith, c.loop-at.invariant.few, ap (λ v. length v.items) w.labels-is);
      }
    ]

pub returns : goal.returns
returns g c = keeps_all c.args.self.now c.loop-at.at c.loop-at.labels (omega (arith, c.loop-at-test.false, c.len-at-end.ensures)) c.loop-at.invariant.keeps
