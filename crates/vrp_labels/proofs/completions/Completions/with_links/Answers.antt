use Rattle.std.proofs.Common.{◌≡◌, ◌∙◌, inl, inr, refl, sym, subst, arith}
use Rattle.std.specs.Int.{bit_at}
use Rattle.std.proofs.lemmas.Bool.{cases_lt, false≢true}
use Rattle.vrp_labels.specs.Completion.{Links}
use Rattle.vrp_labels.specs.Graph.{Follows}
use Rattle.vrp_labels.proofs.PlaceSets.{with_cases, with_one, with_still}
use Rattle.vrp_labels.proofs.completions.Completions.with_links.Goals.{then-not-contains+then-links, else-not-contains, else-not-contains-via-then-not-contains+else-links, else-not-contains-via-else-not-contains}
use Rattle.vrp_labels.proofs.completions.Completions.with_links.Goals as goal

pub loop-place-preserved : goal.loop-place-preserved
loop-place-preserved c =
    let s = c.args.self.now in
    let forward = c.args.forward.now in
    let place = c.loop-place.place in
    let inv = c.loop-place.invariant in
    elim c.if-not-contains.branch [
      | then-not-contains+then-links w ↦ record {
        still = λ j set. subst (λ n. bit_at n j ≡ 1) (sym w.set-is) (with_still c.loop-place.set place w.with-set.result j w.with-set.ensures (inv.still j set));
        linked = λ j less linked. subst (λ n. bit_at n j ≡ 1) (sym w.set-is) (elim (cases_lt j place) [
          | inl before ↦ with_still c.loop-place.set place w.with-set.result j w.with-set.ensures (inv.linked j before linked)
          | inr last ↦ subst (λ n. bit_at w.with-set.result n ≡ 1) (let same : place ≡ j = omega (arith, less, last) in same) (with_one c.loop-place.set place w.with-set.result w.with-set.ensures)
        ]);
        alive = λ j set. elim (with_cases c.loop-place.set place w.with-set.result j w.with-set.ensures (subst (λ n. bit_at n j ≡ 1) w.set-is set)) [
          | inl here ↦ inr (subst (Follows s.graph forward.at) here (w.links.ensures.found w.if-links.true).0)
          | inr was ↦ inv.alive j was
        ];
      }
      | else-not-contains w ↦ record {
        still = λ j set. subst (λ n. bit_at n j ≡ 1) (sym w.set-is) (inv.still j set);
        linked = λ j less linked. subst (λ n. bit_at n j ≡ 1) (sym w.set-is) (elim (cases_lt j place) [
          | inl before ↦ inv.linked j before linked
          | inr last ↦
              let same : place ≡ j = omega (arith, less, last) in
              subst (λ n. bit_at c.loop-place.set n ≡ 1) same (elim w.else-not-contains.branch [
                | else-not-contains-via-then-not-contains+else-links v ↦ absurd (false≢true (sym v.if-links.false ∙ v.links.ensures.none (subst (Links s forward) (sym same) linked)))
                | else-not-contains-via-else-not-contains v ↦ v.if-not-contains.ensures.0 refl
              ])
        ]);
        alive = λ j set. inv.alive j (subst (λ n. bit_at n j ≡ 1) w.set-is set);
      }
    ]
