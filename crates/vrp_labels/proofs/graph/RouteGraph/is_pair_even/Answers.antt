use Rattle.std.proofs.Common.{◌∙◌, sym, refl, subst, arith, not}
use Rattle.std.specs.Prelude.{IsTrue}
use Rattle.std.proofs.lemmas.Bool.{false≢true}
use Rattle.std.proofs.lemmas.Int.{ints}
use Rattle.vrp_labels.proofs.SignedSums.{three_alike, three_is}
use Rattle.vrp_labels.proofs.graph.RouteGraph.is_pair_even.Goals as goal

pub returns-then-not-follows : goal.returns-then-not-follows
returns-then-not-follows c =
    let one = three_is c.arc.result c.arc-2.result c.arc-3.result (omega (arith, c.arc.ensures.small, c.arc-2.ensures.small, c.arc-3.ensures.small)) in
    let other = three_is c.arc-4.result c.arc-5.result c.arc-6.result (omega (arith, c.arc-4.ensures.small, c.arc-5.ensures.small, c.arc-6.ensures.small)) in (
      λ yes. record {
        round = grind (ints, arith, c.if-one-other.false, one, other, c.arc.ensures.value, c.arc-2.ensures.value, c.arc-3.ensures.value, c.arc-4.ensures.value, c.arc-5.ensures.value, c.arc-6.ensures.value);
        both = λ follows. absurd (false≢true (sym c.if-not-follows.true ∙ c.follows.ensures.1 follows));
      },
      λ even. subst (λ b. IsTrue (not b)) (sym c.if-not-follows.true) refl,
    )

pub returns-else-not-follows : goal.returns-else-not-follows
returns-else-not-follows c =
    let one = three_is c.arc.result c.arc-2.result c.arc-3.result (omega (arith, c.arc.ensures.small, c.arc-2.ensures.small, c.arc-3.ensures.small)) in
    let other = three_is c.arc-4.result c.arc-5.result c.arc-6.result (omega (arith, c.arc-4.ensures.small, c.arc-5.ensures.small, c.arc-6.ensures.small)) in (
      λ back. record {
        round = grind (ints, arith, c.if-one-other.false, one, other, c.arc.ensures.value, c.arc-2.ensures.value, c.arc-3.ensures.value, c.arc-4.ensures.value, c.arc-5.ensures.value, c.arc-6.ensures.value);
        both = λ follows. c.follows-else-not-follows.ensures.0 back;
      },
      λ even. c.follows-else-not-follows.ensures.1 (even.both (c.follows.ensures.0 c.if-not-follows.false)),
    )

pub returns-then-one-other : goal.returns-then-one-other
returns-then-one-other c = (
  λ no. absurd (false≢true no),
  λ even. absurd (c.if-one-other.true
      (three_alike c.arc.result c.arc-2.result c.arc-3.result c.arc-4.result c.arc-5.result c.arc-6.result
      (omega (arith, c.arc.ensures.small, c.arc-2.ensures.small, c.arc-3.ensures.small)) (omega (arith, c.arc-4.ensures.small, c.arc-5.ensures.small, c.arc-6.ensures.small))
      (omega (arith, ints, even.round, c.arc.ensures.value, c.arc-2.ensures.value, c.arc-3.ensures.value, c.arc-4.ensures.value, c.arc-5.ensures.value, c.arc-6.ensures.value)))),
)
