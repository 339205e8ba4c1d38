use Rattle.std.proofs.Common.{◌≡◌, ◌+◌, IfSome, subst, arith}
use Rattle.vrp_canonical.specs.Passing.{AllHave, GoesBelow, IsAnswer}
use Rattle.vrp_canonical.specs.Reaching.{routes_at}
use Rattle.vrp_canonical.proofs.Narrowing.{answered_no, answered_yes, narrowed}
use Rattle.vrp_canonical.proofs.halving.narrow.Goals as goal

pub returns-then-not-some-clause-next : goal.returns-then-not-some-clause-next
returns-then-not-some-clause-next g c = λ p limit stops whole chosen task begun.
    let told : IsAnswer c.args.pool.now c.args.question.now.rest c.args.question.now.customer c.args.question.now.low c.args.question.now.high c.in-Some.some = subst (λ o. IfSome o (IsAnswer c.args.pool.now c.args.question.now.rest c.args.question.now.customer c.args.question.now.low c.args.question.now.high)) c.in-Some.is c.in_ok-some.ensures in
    record {
      begun = answered_no p limit stops c.args.pool.now whole task c.args.question.now.low chosen c.args.question.now.rest begun c.args.question.now.customer c.args.question.now.high c.in-Some.some told c.requires.have c.if-not-some.true;
      next = λ lt. absurd (omega arith);
    }

pub loop-high-init : goal.loop-high-init
loop-high-init g c = record {
  from = omega arith;
  some = c.requires.some;
  to = omega arith;
  begun = λ p limit stops whole chosen task begun. begun;
  below = λ p limit stops whole chosen task begun.
      let told : IsAnswer c.args.pool.now c.args.question.now.rest c.args.question.now.customer c.args.question.now.low c.args.question.now.high c.in-Some.some = subst (λ o. IfSome o (IsAnswer c.args.pool.now c.args.question.now.rest c.args.question.now.customer c.args.question.now.low c.args.question.now.high)) c.in-Some.is c.in_ok-some.ensures in
      answered_yes p limit stops c.args.pool.now whole task c.args.question.now.low chosen c.args.question.now.rest begun c.args.question.now.customer c.args.question.now.low c.args.question.now.high c.in-Some.some told c.requires.unserved c.if-not-some.false;
}

pub loop-high-preserved-then-lower : goal.loop-high-preserved-then-lower
loop-high-preserved-then-lower g c =
    let low = c.loop-high.low in
    let middle = c.middle_between-middle.result in
    record {
      from = c.loop-high.invariant.from;
      some = c.middle_between-middle.ensures.from;
      to = omega (arith, c.loop-high.invariant.to, c.middle_between-middle.ensures.to);
      begun = c.loop-high.invariant.begun;
      below = λ p limit stops whole chosen task begun.
          let told : IsAnswer c.args.pool.now c.args.question.now.rest c.args.question.now.customer low middle c.in-Some-2.lower = subst (λ o. IfSome o (IsAnswer c.args.pool.now c.args.question.now.rest c.args.question.now.customer low middle)) c.in-Some-2.is c.in_ok-lower.ensures in
          answered_yes p limit stops c.args.pool.now whole task c.args.question.now.low chosen c.args.question.now.rest begun c.args.question.now.customer low middle c.in-Some-2.lower told c.requires.unserved c.if-lower.true;
    }

pub loop-high-preserved : goal.loop-high-preserved
loop-high-preserved g c =
    let low = c.loop-high.low in
    let middle = c.middle_between-middle.result in
    record {
      from = omega (arith, c.loop-high.invariant.from, c.middle_between-middle.ensures.from);
      some = c.middle_between-middle.ensures.to;
      to = c.loop-high.invariant.to;
      begun = λ p limit stops whole chosen task begun.
          let told : IsAnswer c.args.pool.now c.args.question.now.rest c.args.question.now.customer low middle c.in-Some-2.lower = subst (λ o. IfSome o (IsAnswer c.args.pool.now c.args.question.now.rest c.args.question.now.customer low middle)) c.in-Some-2.is c.in_ok-lower.ensures in
          let have : AllHave c.args.pool.now c.args.question.now.rest.unserved c.args.question.now.customer low middle = λ k from below within inside. c.requires.have k (omega (arith, from, c.loop-high.invariant.from)) (omega (arith, below, c.loop-high.invariant.to, c.middle_between-middle.ensures.to)) within inside in
          answered_no p limit stops c.args.pool.now whole task low chosen c.args.question.now.rest (c.loop-high.invariant.begun p limit stops whole chosen task begun) c.args.question.now.customer middle c.in-Some-2.lower told have c.if-lower.false;
      below = c.loop-high.invariant.below;
    }

pub returns-clause-next : goal.returns-clause-next
returns-clause-next g c = λ p limit stops whole chosen task begun.
    let one : c.loop-high.high ≡ c.loop-high.low + 1 = omega (arith, c.loop-high-test.false, c.loop-high.invariant.some) in
    let here = c.loop-high.invariant.begun p limit stops whole chosen task begun in
    record {
      begun = here;
      next = λ lt. narrowed p limit stops c.args.pool.now whole task c.loop-high.low chosen c.args.question.now.rest here (subst (GoesBelow p stops whole.most (routes_at stops chosen)) one (c.loop-high.invariant.below p limit stops whole chosen task begun));
    }
