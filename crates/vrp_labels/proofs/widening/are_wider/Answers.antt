use Rattle.std.proofs.Common.{◌≡◌, ◌∙◌, inl, inr, ap, get_or, refl, subst, arith}
use Rattle.std.proofs.lemmas.Bool.{cases_lt}
use Rattle.std.proofs.lemmas.List.{get_or_default}
use Rattle.vrp_labels.specs.Widening.{IsWiderAt}
use Rattle.vrp_labels.proofs.widening.are_wider.Goals as goal

pub loop-place-preserved : goal.loop-place-preserved
loop-place-preserved c = λ place less. elim (cases_lt place c.loop-place.place) [
  | inl before ↦ c.loop-place.invariant place before
  | inr last ↦
      let here = c.loop-place.place in
      let same : here ≡ place = omega (arith, less, last) in
      let memory = c.index-memories-from.result in
      let is : memory ≡ get_or c.args.memories.now here 0 =
      c.index-memories-from.is ∙ ap (λ n. get_or c.args.memories.now n memory) c.from.ensures
      ∙ get_or_default c.args.memories.now here memory 0 (omega (arith, c.loop-place-test.true, c.places-place-end.ensures.value, c.requires)) in
      subst (λ n. IsWiderAt c.args.folded.now n (get_or c.args.memories.now n 0)) same (subst (IsWiderAt c.args.folded.now here) is (c.if-not-is_wider_at.ensures.0 refl))
]
