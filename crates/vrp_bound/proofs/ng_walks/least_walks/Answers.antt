use Rattle.std.proofs.Common.{ℕ, ◌+◌, ◌*◌, ◌/◌, ◌%◌, ◌<◌, ◌≤◌, List, length, slice_index, subst, sym, ap, arith}
use Rattle.vrp_model.specs.Problem.{place_count}
use Rattle.vrp_model.proofs.BoundedLists.{bounded_push}
use Rattle.vrp_bound.specs.Inner.CompletionCells.{IsLeastCell, mark}
use Rattle.vrp_bound.specs.Tables.{room_of}
use Rattle.vrp_model.proofs.PushedCells.{each_push}
use Rattle.vrp_bound.proofs.ArcsLookedAt.{row_before}
use Rattle.vrp_bound.specs.Inner.CompletionCells.{HasWalk}
use Rattle.vrp_model.specs.Near.{near_in}
use Rattle.vrp_bound.proofs.FilledRows.{count_rows, few_near, least_of_row}
use Rattle.vrp_bound.specs.Inner.Scaled.{scaled}
use Rattle.vrp_bound.proofs.ng_walks.least_walks.Goals as goal

pub loop-place-init : goal.loop-place-init
loop-place-init c =
    let none = c.in_ok-walks.ensures.items in
    record {
      len = ap (λ (xs : List ℕ). length xs) none;
      capacity = omega (arith, c.in_ok-walks.ensures.exact);
      each = λ k inside. absurd (omega (arith, inside, ap (λ (xs : List ℕ). length xs) none));
      within = λ k. subst (λ (xs : List ℕ). slice_index xs k ≤ mark) (sym none) (omega arith);
    }

pub cells_of-requires : goal.cells_of-requires
cells_of-requires c =
    let masks = c.args.scope.masks in
    let rows = (room_of (scaled c.args.scope.units) c.args.scope.units.customers.now + 1) * place_count (scaled c.args.scope.units) in
    let count = count_rows rows masks (length c.args.cells.now) (omega (arith, c.args.scope.some)) c.requires.cells.all in
    record { fits = omega (arith, c.requires.cells.all, row_before c.loop-place.place rows masks (omega (arith, c.loop-place-test.true, count))) }

pub loop-place-preserved : goal.loop-place-preserved
loop-place-preserved c =
    let scope = c.args.scope in
    let masks = scope.masks in
    let p = (scaled c.args.scope.units) in
    let near = near_in scope.ng_sets.now in
    let among = c.args.scope.units.customers.now in
    let place = c.loop-place.place in
    let walks = c.loop-place.walks.items in
    let best = c.least_of-least.result in
    let rows = (room_of p among + 1) * place_count p in
    let count = count_rows rows masks (length c.args.cells.now) (omega (arith, scope.some)) c.requires.cells.all in
    let fits : place * masks + masks ≤ length c.args.cells.now = omega (arith, c.requires.cells.all, row_before place rows masks (omega (arith, c.loop-place-test.true, count))) in
    let least = least_of_row p near among masks c.args.cells.now c.cells_of.result.now place best (few_near scope.ng_sets.now masks scope.bits) c.requires.cells.so_far fits c.cells_of.ensures.len c.cells_of.ensures.value c.least_of-least.ensures.low c.least_of-least.ensures.met in
    let Is : ℕ → ℕ → Type 0 = λ k cost. IsLeastCell (HasWalk p near among (k % place_count p) (k / place_count p)) cost in
    record {
      len = omega (arith, c.push_reserved.ensures.len, c.loop-place.invariant.len);
      capacity = omega (arith, c.push_reserved.ensures.capacity, c.loop-place.invariant.capacity);
      each = subst (λ (xs : List ℕ). (k : ℕ) → k < length xs → Is k (slice_index xs k)) (sym c.push_reserved.ensures.items)
          (each_push Is walks best c.loop-place.invariant.each (subst (λ n. Is n best) (sym c.loop-place.invariant.len) least));
      within = subst (λ (xs : List ℕ). (k : ℕ) → slice_index xs k ≤ mark) (sym c.push_reserved.ensures.items)
          (bounded_push walks best mark c.loop-place.invariant.within c.least_of-least.ensures.within);
    }

pub returns : goal.returns
returns c =
    let rows = (room_of (scaled c.args.scope.units) c.args.scope.units.customers.now + 1) * place_count (scaled c.args.scope.units) in
    let count = count_rows rows c.args.scope.masks (length c.args.cells.now) (omega (arith, c.args.scope.some)) c.requires.cells.all in
    record {
      so_far = record { each = c.loop-place.invariant.each; within = c.loop-place.invariant.within };
      all = omega (arith, c.loop-place.invariant.len, c.loop-place-test.false, c.loop-place.auto.place-end, count);
    }
