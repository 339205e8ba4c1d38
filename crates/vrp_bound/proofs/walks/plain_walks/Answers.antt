use Rattle.std.proofs.Common.{◌≡◌, ℕ, ◌+◌, ◌*◌, List, length, get_or, ap, arith}
use Rattle.vrp_bound.proofs.SmallRows.{row_small}
use Rattle.vrp_bound.proofs.ArcsLookedAt.{row_before}
use Rattle.vrp_bound.proofs.walks.plain_walks.Goals as goal

pub overflow_add-loads : goal.overflow_add-loads
overflow_add-loads c = omega (arith, c.requires.room, c.args.scope.scope.light)

pub overflow_mul-loads : goal.overflow_mul-loads
overflow_mul-loads c = omega (arith, row_small (c.args.room + 1) c.args.scope.places (omega (arith, c.requires.room, c.args.scope.scope.light)) (omega (arith, c.args.scope.counted, c.args.scope.scope.problem.few_places)))

pub loop-load-init : goal.loop-load-init
loop-load-init c =
    let empty : length c.in_ok-cells.cells.items ≡ 0 = ap length c.in_ok-cells.ensures.items in
    record {
      len = omega (arith, empty);
      capacity = c.in_ok-cells.ensures.capacity;
      so_far = record { each = λ k inside. absurd (omega (arith, inside, empty)); within = λ k. omega (arith, ap (λ (cells : List ℕ). get_or cells k 0) c.in_ok-cells.ensures.items) };
    }

pub push_row-requires-clause-demands : goal.push_row-requires-clause-demands
push_row-requires-clause-demands c = c.requires.demands

pub push_row-requires-clause-so_far : goal.push_row-requires-clause-so_far
push_row-requires-clause-so_far c = c.loop-load.invariant.so_far

pub push_row-requires-clause-next : goal.push_row-requires-clause-next
push_row-requires-clause-next c = omega (arith, c.loop-load.invariant.len, ap (λ n. c.loop-load.load * n) c.args.scope.counted)

pub push_row-requires-clause-fits : goal.push_row-requires-clause-fits
push_row-requires-clause-fits c =
    omega (arith, c.loop-load.invariant.len, c.loop-load.invariant.capacity, c.args.scope.counted, row_before c.loop-load.load (c.args.room + 1) c.args.scope.places c.loop-load-test.true)

pub loop-load-preserved : goal.loop-load-preserved
loop-load-preserved c = record {
  len = omega (arith, c.push_row.ensures.len, c.loop-load.invariant.len, c.args.scope.counted);
  capacity = omega (arith, c.push_row.ensures.capacity, c.loop-load.invariant.capacity);
  so_far = c.push_row.ensures.so_far;
}

pub returns : goal.returns
returns c =
    let load : c.loop-load.load ≡ c.args.room + 1 = omega (arith, c.loop-load-test.false, c.loop-load.auto.load-end) in
    record {
      so_far = c.loop-load.invariant.so_far;
      all = cc (c.loop-load.invariant.len, load, c.args.scope.counted, c.requires.room);
    }
