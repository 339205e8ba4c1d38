use Rattle.std.proofs.Common.{◌≡◌, ◌<◌, ℕ, List, false, get_or, length, sym, ap, subst, arith}
use Rattle.std.specs.List.{Contains}
use Rattle.std.proofs.lemmas.Result.{IfOk-weaker}
use Rattle.vrp_partition.specs.Narrowing.{IsNarrowed}
use Rattle.vrp_partition.specs.Pricing.{MarksWithin}
use Rattle.vrp_partition.specs.declared.narrowing.Kept.{Kept}
use Rattle.vrp_partition.proofs.NarrowedRoutes.{unmarked_rest}
use Rattle.vrp_partition.proofs.narrowing.routes_within.Goals as goal
use Rattle.vrp_partition.proofs.narrowing.routes_within.Goals.{else-loop-test, then-loop-test+then-budget-eq0, then-loop-test+else-budget-eq0+in_ok-round+in_ok-group+then-not-is_empty}

pub loop-init : goal.loop-init
loop-init g c = record { most = omega arith; narrowed = c.in_ok-kept.ensures c.args.query.now.customers c.args.query.now.fleet.trucks c.args.query.now.least_routes c.args.query.now.limit }

pub narrowed-requires-clause-narrowed : goal.narrowed-requires-clause-narrowed
narrowed-requires-clause-narrowed g c = c.loop.invariant.narrowed

pub loop-preserved : goal.loop-preserved
loop-preserved g c = record {
  most = omega (arith, c.saturating_sub.ensures, c.loop.invariant.most);
  narrowed = c.in_ok-round.ensures;
}

pub marks_of-requires : goal.marks_of-requires
marks_of-requires g c =
    let query = c.args.query.now in
    let is : Kept → Type 0 = λ (kept : Kept). IsNarrowed c.args.pool.now query.customers query.fleet.trucks query.least_routes query.limit kept in
    let narrowed : is c.loop-test.kept = elim c.loop-test.branch [
      | else-loop-test w ↦ subst is (sym w.kept-is) c.loop.invariant.narrowed
      | then-loop-test+then-budget-eq0 w ↦ subst is (sym w.kept-is) c.loop.invariant.narrowed
      | then-loop-test+else-budget-eq0+in_ok-round+in_ok-group+then-not-is_empty w ↦ subst is (sym w.kept-is) w.in_ok-round.ensures
    ] in
    record { inside = λ at lt. omega (arith, narrowed.inside at (omega (arith, lt, ap length c.as_slice-2.ensures.value)), ap (λ ks. get_or ks at 0) c.as_slice-2.ensures.value) }

pub returns-clause-marks : goal.returns-clause-marks
returns-clause-marks g c =
    let pool = c.args.pool.now in
    let query = c.args.query.now in
    let is : Kept → Type 0 = λ (kept : Kept). IsNarrowed pool query.customers query.fleet.trucks query.least_routes query.limit kept in
    let narrowed : is c.loop-test.kept = elim c.loop-test.branch [
      | else-loop-test w ↦ subst is (sym w.kept-is) c.loop.invariant.narrowed
      | then-loop-test+then-budget-eq0 w ↦ subst is (sym w.kept-is) c.loop.invariant.narrowed
      | then-loop-test+else-budget-eq0+in_ok-round+in_ok-group+then-not-is_empty w ↦ subst is (sym w.kept-is) w.in_ok-round.ensures
    ] in
    IfOk-weaker c.marks_of.result
    (λ marks. (length marks.items ≡ length pool) × ((k : ℕ) → k < length pool → get_or marks.items k false ≡ false → Contains c.as_slice-2.result.now k → ⊥))
    (λ marks. MarksWithin pool query.customers query.fleet.trucks query.least_routes query.limit marks.items)
    (λ marks made. record {
      long = made.0;
      rest = unmarked_rest pool c.loop-test.kept.places.items marks.items query.customers query.fleet.trucks query.least_routes query.limit narrowed.rest
          (λ k lt unmarked has. made.1 k lt unmarked (subst (λ (ks : List ℕ). Contains ks k) (sym c.as_slice-2.ensures.value) has));
    }) c.marks_of.ensures
