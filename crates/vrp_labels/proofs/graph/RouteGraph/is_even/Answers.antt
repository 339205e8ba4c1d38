use Rattle.std.proofs.Common.{◌≡◌, inl, inr, refl, subst, arith}
use Rattle.std.proofs.lemmas.Bool.{cases_lt}
use Rattle.vrp_labels.specs.Fixing.{IsPairEven}
use Rattle.vrp_labels.proofs.graph.RouteGraph.is_even.Goals as goal

pub loop-j-preserved : goal.loop-j-preserved
loop-j-preserved c = record {
  before = c.loop-j.invariant.before;
  here = λ j less. elim (cases_lt j c.loop-j.j) [
    | inl before ↦ c.loop-j.invariant.here j before
    | inr last ↦ subst (IsPairEven c.args.self.now c.loop-i.i) (let same : c.loop-j.j ≡ j = omega (arith, less, last) in same) (c.if-not-is_pair_even.ensures.0 refl)
  ];
}

pub loop-i-preserved : goal.loop-i-preserved
loop-i-preserved c = λ i j less lt. elim (cases_lt i c.loop-i.i) [
  | inl before ↦ c.loop-j.invariant.before i j before lt
  | inr last ↦ subst (λ n. IsPairEven c.args.self.now n j) (let same : c.loop-i.i ≡ i = omega (arith, less, last) in same) (c.loop-j.invariant.here j (omega (arith, lt, c.loop-j-test.false, c.places-j-end.ensures.value)))
]
