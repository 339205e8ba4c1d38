use Rattle.std.proofs.Common.{◌≡◌, ℕ, ◌+◌, ◌*◌, ◌≤◌, ◌∙◌, List, length, get_or, sym, ap, arith}
use Rattle.std.specs.List.{length_refill}
use Rattle.std.proofs.lemmas.Nat.{mul-le}
use Rattle.vrp_bound.proofs.ArcsLookedAt.{row_before}
use Rattle.vrp_bound.proofs.ng_walks.ng_walks.Goals as goal

pub overflow_add-loads : goal.overflow_add-loads
overflow_add-loads c = omega (arith, c.requires.room, c.args.scope.units.scope.light)

pub overflow_mul-loads : goal.overflow_mul-loads
overflow_mul-loads c = omega (arith, mul-le (c.args.room + 1) c.args.scope.units.places 200000001 1200 (omega (arith, c.requires.room, c.args.scope.units.scope.light)) (omega (arith, c.args.scope.units.counted, c.args.scope.units.scope.problem.few_places)))

pub overflow_mul-loads-2 : goal.overflow_mul-loads-2
overflow_mul-loads-2 c =
    let rows : (c.args.room + 1) * c.args.scope.units.places ≤ 240000001200 = omega (arith, mul-le (c.args.room + 1) c.args.scope.units.places 200000001 1200 (omega (arith, c.requires.room, c.args.scope.units.scope.light)) (omega (arith, c.args.scope.units.counted, c.args.scope.units.scope.problem.few_places))) in
    omega (arith, mul-le ((c.args.room + 1) * c.args.scope.units.places) c.args.scope.masks 240000001200 16 rows c.args.scope.few)

pub push_load-requires-clause-light : goal.push_load-requires-clause-light
push_load-requires-clause-light c = omega (arith, c.loop-load-test.true, c.requires.room, c.args.scope.units.scope.light)

pub push_load-requires-clause-next : goal.push_load-requires-clause-next
push_load-requires-clause-next c = omega (arith, c.loop-load.invariant.len, ap (λ n. c.loop-load.load * n * c.args.scope.masks) c.args.scope.units.counted)

pub push_load-requires-clause-fits : goal.push_load-requires-clause-fits
push_load-requires-clause-fits c =
    omega (
      arith,
      c.loop-load.invariant.len,
      c.loop-load.invariant.capacity,
      row_before c.loop-load.load (c.args.room + 1) (c.args.scope.units.places * c.args.scope.masks) (omega (arith, c.loop-load-test.true)),
      ap (λ n. n * c.args.scope.masks) c.args.scope.units.counted,
    )

pub loop-load-init : goal.loop-load-init
loop-load-init c =
    let empty : length c.in_ok-cells.cells.items ≡ 0 = ap length c.in_ok-cells.ensures.items in
    record {
      len = omega (arith, empty);
      capacity = c.in_ok-cells.ensures.capacity;
      row = sym c.in_ok-row.row.ok.0 ∙ c.in_ok-row.ensures.len;
      so_far = record { each = λ k inside. absurd (omega (arith, inside, empty)); within = λ k. omega (arith, ap (λ (cells : List ℕ). get_or cells k 0) c.in_ok-cells.ensures.items) };
    }

pub push_load-requires-clause-row : goal.push_load-requires-clause-row
push_load-requires-clause-row c = ap length c.deref_mut.ensures.value ∙ c.loop-load.invariant.row

pub push_load-requires-clause-so_far : goal.push_load-requires-clause-so_far
push_load-requires-clause-so_far c = c.loop-load.invariant.so_far

pub loop-load-smaller : goal.loop-load-smaller
loop-load-smaller c = omega arith

pub loop-load-preserved : goal.loop-load-preserved
loop-load-preserved c = record {
  len = omega (arith, c.push_load.ensures.len, c.loop-load.invariant.len, ap (λ n. n * c.args.scope.masks) c.args.scope.units.counted);
  capacity = omega (arith, c.push_load.ensures.capacity, c.loop-load.invariant.capacity);
  row = sym (length_refill c.loop-load.row.len c.loop-load.row.items c.push_load.new.row c.loop-load.row.ok.0) ∙ c.loop-load.row.ok.0 ∙ c.loop-load.invariant.row;
  so_far = c.push_load.ensures.so_far;
}

pub returns : goal.returns
returns c =
    let load : c.loop-load.load ≡ c.args.room + 1 = omega (arith, c.loop-load-test.false, c.loop-load.auto.load-end) in
    record {
      so_far = c.loop-load.invariant.so_far;
      all = cc (c.loop-load.invariant.len, load, c.args.scope.units.counted, c.requires.room);
    }
