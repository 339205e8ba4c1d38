use Rattle.std.proofs.Common.{◌≡◌, ◌+◌, ◌<◌, ◌≤◌, ℕ, bit_and, IfSome, List, length, sym, subst, arith}
use Rattle.std.specs.List.{All}
use Rattle.std.proofs.lemmas.List.Elements.{All-nil, All-push}
use Rattle.vrp_canonical.specs.Asking.{IsRight}
use Rattle.vrp_canonical.specs.Passing.{IsAfter, IsBegun, IsInside, IsNarrowed, route_in}
use Rattle.vrp_canonical.specs.Reaching.{IsTask}
use Rattle.vrp_canonical.specs.declared.residual.Residual.{Residual}
use Rattle.vrp_canonical.proofs.Begun.{arrived, setting_out, step_passed}
use Rattle.vrp_canonical.proofs.Narrowing.{taken_narrowed}
use Rattle.vrp_canonical.proofs.SetTests.{route_read, set_read, unlike}
use Rattle.vrp_model.specs.Problem.{Problem}
use Rattle.vrp_partition.specs.declared.route.Route.{Route}
use Rattle.vrp_canonical.proofs.plan_places.canonical_places.Goals as goal
use Rattle.vrp_canonical.proofs.plan_places.canonical_places.Goals.{then-not-reach_to+in_ok-answers, else-not-reach_to}

pub loop-index-init : goal.loop-index-init
loop-index-init g c = record {
  within = subst (All (λ at. at < length c.args.pool.now)) (sym c.new-chosen.ensures.items) (All-nil (λ at. at < length c.args.pool.now));
  right = subst (All (IsRight c.args.pool.now)) (sym c.new-answers.ensures.items) (All-nil (IsRight c.args.pool.now));
  end = omega arith;
  begun = λ p limit stops task. subst (λ xs. IsBegun p stops task.plan c.args.whole.now 0 xs c.args.whole.now) (sym c.new-chosen.ensures.items) (setting_out p limit stops c.args.pool.now c.args.whole.now task);
}

pub narrow-requires-clause-right : goal.narrow-requires-clause-right
narrow-requires-clause-right g c κs within =
    subst (All (IsRight c.args.pool.now)) (sym c.deref-else-not-is_subset.ensures.value) (elim c.if-not-reach_to.branch [
      | then-not-reach_to+in_ok-answers w ↦ rw w.answers-is w.in_ok-answers.ensures
      | else-not-reach_to w ↦ rw w.answers-is c.loop-index.invariant.right
    ])

pub loop-index-preserved-then-not-is_subset : goal.loop-index-preserved-then-not-is_subset
loop-index-preserved-then-not-is_subset g c =
    let pool = c.args.pool.now in
    let route = c.index-pool-index.result in
    let unserved = c.loop-index.rest.unserved in
    let here = set_read pool c.loop-index.index route c.loop-index-test.true in
    let outside : IsInside pool unserved c.loop-index.index → ⊥ = subst (λ n. bit_and n unserved ≡ n → ⊥) here (unlike c.is_subset.result _ _ c.is_subset.ensures c.if-not-is_subset.true) in
    record {
      within = c.loop-index.invariant.within;
      right = c.loop-index.invariant.right;
      end = omega arith;
      begun = λ p limit stops task. step_passed p limit stops c.args.pool.now c.args.whole.now task c.loop-index.index c.loop-index.chosen.items c.loop-index.rest
          (c.loop-index.invariant.begun p limit stops task) c.loop-index-test.true outside;
    }

pub loop-index-preserved-then-at-run : goal.loop-index-preserved-then-at-run
loop-index-preserved-then-at-run g c =
    let pool = c.args.pool.now in
    let at = c.in-Some.at in
    let chosen = c.loop-index.chosen.items in
    let rest = c.loop-index.rest in
    let below : at < length pool = omega (arith, c.if-at-run.true, c.run_from-run.ensures.end) in
    record {
      within = subst (All (λ k. k < length pool)) (sym c.in_ok-push.ensures.items) (All-push (λ k. k < length pool) chosen at c.loop-index.invariant.within below);
      right = elim c.if-not-reach_to.branch [
        | then-not-reach_to+in_ok-answers w ↦ rw w.answers-is w.in_ok-answers.ensures
        | else-not-reach_to w ↦ rw w.answers-is c.loop-index.invariant.right
      ];
      end = omega (arith, below);
      begun = λ p limit stops task.
          let narrowed : IsNarrowed p stops task.plan c.args.whole.now chosen rest c.run_from-run.result.end at = subst (λ o. IfSome o (λ at. (p : Problem) (limit : ℕ) (stops : List (List ℕ)) (whole : Residual) (chosen : List ℕ) → (task : IsTask p limit stops pool whole) → IsBegun p stops task.plan whole c.loop-index.index chosen rest → IsNarrowed p stops task.plan whole chosen rest c.run_from-run.result.end at)) c.in-Some.is c.in_ok-at.ensures.next p limit stops c.args.whole.now chosen task (c.loop-index.invariant.begun p limit stops task) in
          let read = route_read pool at c.index-pool-at.result below c.index-pool-at.is in
          let after : IsAfter rest (route_in pool at) c.in-Some-without.next = subst (λ (r : Route). IsAfter rest r c.in-Some-without.next) read c.in-Some-without.ensures.after in
          subst (λ xs. IsBegun p stops task.plan c.args.whole.now (at + 1) xs c.in-Some-without.next) (sym c.in_ok-push.ensures.items)
          (taken_narrowed p limit stops pool c.args.whole.now task at chosen rest c.in-Some-without.next narrowed.begun below after (narrowed.next c.if-at-run.true));
    }

pub loop-index-preserved : goal.loop-index-preserved
loop-index-preserved g c =
    let pool = c.args.pool.now in
    let at = c.in-Some.at in
    let chosen = c.loop-index.chosen.items in
    let rest = c.loop-index.rest in
    let to : at ≤ c.run_from-run.result.end = subst (λ o. IfSome o (λ at. at ≤ c.run_from-run.result.end)) c.in-Some.is c.in_ok-at.ensures.to in
    record {
      within = c.loop-index.invariant.within;
      right = elim c.if-not-reach_to.branch [
        | then-not-reach_to+in_ok-answers w ↦ rw w.answers-is w.in_ok-answers.ensures
        | else-not-reach_to w ↦ rw w.answers-is c.loop-index.invariant.right
      ];
      end = omega (arith, to, c.run_from-run.ensures.end);
      begun = λ p limit stops task.
          let narrowed : IsNarrowed p stops task.plan c.args.whole.now chosen rest c.run_from-run.result.end at = subst (λ o. IfSome o (λ at. (p : Problem) (limit : ℕ) (stops : List (List ℕ)) (whole : Residual) (chosen : List ℕ) → (task : IsTask p limit stops pool whole) → IsBegun p stops task.plan whole c.loop-index.index chosen rest → IsNarrowed p stops task.plan whole chosen rest c.run_from-run.result.end at)) c.in-Some.is c.in_ok-at.ensures.next p limit stops c.args.whole.now chosen task (c.loop-index.invariant.begun p limit stops task) in
          narrowed.begun;
    }

pub returns-clause-canonical : goal.returns-clause-canonical
returns-clause-canonical g c = λ p limit stops task.
    arrived p limit stops c.args.pool.now c.args.whole.now task c.loop-index.index c.loop-index.chosen.items c.loop-index.rest (c.loop-index.invariant.begun p limit stops task) c.loop-index-test.false
