use Rattle.std.proofs.Common.{◌≡◌, ℕ, List, length, get_or, subst, sym, ap, arith}
use Rattle.vrp_bound.specs.Inner.CompletionCells.{AreToursSoFar, HasTours, IsLeastCell}
use Rattle.vrp_bound.specs.Inner.Scaled.{near_by}
use Rattle.vrp_bound.specs.Inner.Units.{in_units}
use Rattle.vrp_bound.proofs.FilledTables.{more_tours}
use Rattle.vrp_bound.proofs.tours.tours.Goals as goal

pub loop-rest-preserved : goal.loop-rest-preserved
loop-rest-preserved c =
    let p = in_units c.args.scope.unit c.args.scope.instance.now in
    let among = c.args.scope.customers.now in
    let cells = c.loop-rest.cells.items in
    let cell = c.least_tours-cell.result in
    let least : IsLeastCell (HasTours p (near_by c.args.scope) among (length cells)) cell = subst (λ n. IsLeastCell (HasTours p (near_by c.args.scope) among n) cell) (ap length c.deref.ensures.value) c.least_tours-cell.ensures.least in
    record {
      next = omega (arith, c.push_reserved.ensures.len, c.loop-rest.invariant.next);
      capacity = omega (arith, c.push_reserved.ensures.capacity, c.loop-rest.invariant.capacity);
      so_far = subst (AreToursSoFar p (near_by c.args.scope) among) (sym c.push_reserved.ensures.items) (more_tours p (near_by c.args.scope) among cells cell c.loop-rest.invariant.so_far least c.least_tours-cell.ensures.within);
    }

pub overflow_add-count : goal.overflow_add-count
overflow_add-count c = omega (arith, c.requires.demand, c.args.scope.scope.light)

pub loop-rest-init : goal.loop-rest-init
loop-rest-init c =
    let empty : length c.in_ok-cells.cells.items ≡ 0 = ap length c.in_ok-cells.ensures.items in
    record {
      next = empty;
      capacity = c.in_ok-cells.ensures.capacity;
      so_far = record { each = λ rest inside. absurd (omega (arith, inside, empty)); within = λ k. omega (arith, ap (λ (cells : List ℕ). get_or cells k 0) c.in_ok-cells.ensures.items) };
    }

pub least_tours-cell-requires-clause-so_far : goal.least_tours-cell-requires-clause-so_far
least_tours-cell-requires-clause-so_far c =
    subst (AreToursSoFar (in_units c.args.scope.unit c.args.scope.instance.now) (near_by c.args.scope) c.args.scope.customers.now) (sym c.deref.ensures.value) c.loop-rest.invariant.so_far

pub least_tours-cell-requires-clause-rest : goal.least_tours-cell-requires-clause-rest
least_tours-cell-requires-clause-rest c = omega (arith, ap length c.deref.ensures.value, c.loop-rest.invariant.next, c.loop-rest-test.true, c.requires.demand)

pub push_reserved-requires : goal.push_reserved-requires
push_reserved-requires c = omega (arith, c.loop-rest.invariant.next, c.loop-rest.invariant.capacity, c.loop-rest-test.true)

pub returns : goal.returns
returns c = record { so_far = c.loop-rest.invariant.so_far; all = omega (arith, c.loop-rest.invariant.next, c.loop-rest-test.false, c.loop-rest.auto.rest-end, c.requires.demand) }
