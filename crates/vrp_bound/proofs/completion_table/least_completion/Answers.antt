use Rattle.std.proofs.Common.{◌≡◌, ◌+◌, ◌*◌, ◌-◌, ap, arith}
use Rattle.vrp_model.specs.Problem.{place_count}
use Rattle.vrp_bound.specs.Inner.Scaled.{near_by}
use Rattle.vrp_bound.specs.Inner.Units.{in_units}
use Rattle.vrp_bound.specs.Tables.{room_of}
use Rattle.vrp_bound.proofs.SmallRows.{row_small}
use Rattle.vrp_bound.proofs.ArcsLookedAt.{completion_looked, completions_looked, row_before}
use Rattle.vrp_bound.proofs.completion_table.least_completion.Goals as goal

pub loop-home-preserved : goal.loop-home-preserved
loop-home-preserved c =
    let p = in_units c.args.scope.unit c.args.scope.instance.now in
    let among = c.args.scope.customers.now in
    let home = c.loop-home.home in
    let places : c.args.scope.places ≡ place_count p = c.args.scope.counted in
    let index = home * c.args.scope.places + c.from.result in
    let is : index ≡ home * place_count p + c.args.at = cc (places, c.from.ensures) in
    record {
      least = completion_looked p (near_by c.args.scope) among c.args.walks.now c.args.tours.now c.args.at (p.capacity - c.args.free) c.args.rest home index c.loop-home.least c.min-least.result c.requires.walks c.requires.tours c.requires.place c.requires.rest
          (omega (arith, c.loop-home-test.true, c.min-home-end.ensures, c.requires.free)) is c.loop-home.invariant.least c.min-least.ensures;
      within = omega (arith, c.min-least.ensures, c.loop-home.invariant.within);
    }

pub returns : goal.returns
returns c =
    let p = in_units c.args.scope.unit c.args.scope.instance.now in
    record {
      least =
          completions_looked p (near_by c.args.scope) c.args.scope.customers.now c.args.at (p.capacity - c.args.free) c.args.rest c.loop-home.home c.loop-home.least c.requires.customer (omega arith)
          (omega (arith, c.loop-home-test.false, c.loop-home.auto.home-end, c.min-home-end.ensures, c.requires.free)) c.loop-home.invariant.least;
    }

pub overflow_add-home-end : goal.overflow_add-home-end
overflow_add-home-end c = omega (arith, c.min-home-end.ensures, c.requires.rest, c.args.scope.scope.light)

pub overflow_mul-home : goal.overflow_mul-home
overflow_mul-home c = omega (arith, row_small c.loop-home.home c.args.scope.places (omega (arith, c.loop-home-test.true, c.min-home-end.ensures, c.requires.rest, c.args.scope.scope.light)) (omega (arith, c.args.scope.counted, c.args.scope.scope.problem.few_places)))

pub overflow_add-home : goal.overflow_add-home
overflow_add-home c = omega (arith, row_small c.loop-home.home c.args.scope.places (omega (arith, c.loop-home-test.true, c.min-home-end.ensures, c.requires.rest, c.args.scope.scope.light)) (omega (arith, c.args.scope.counted, c.args.scope.scope.problem.few_places)), c.from.ensures, c.ranges.at)

pub offset_bounds-walks-home : goal.offset_bounds-walks-home
offset_bounds-walks-home c = omega (arith, row_small c.loop-home.home c.args.scope.places (omega (arith, c.loop-home-test.true, c.min-home-end.ensures, c.requires.rest, c.args.scope.scope.light)) (omega (arith, c.args.scope.counted, c.args.scope.scope.problem.few_places)), c.from.ensures, c.ranges.at)

pub bounds-walks-home : goal.bounds-walks-home
bounds-walks-home c =
    let p = in_units c.args.scope.unit c.args.scope.instance.now in
    let among = c.args.scope.customers.now in
    let home = c.loop-home.home in
    let row : home * c.args.scope.places ≡ home * place_count p = ap (λ n. home * n) c.args.scope.counted in
    omega (arith, row, row_before home (room_of p among + 1) (place_count p) (omega (arith, c.loop-home-test.true, c.min-home-end.ensures, c.requires.free, c.requires.rest)), c.requires.walks.all, c.requires.place, c.from.ensures)

pub overflow_sub-rest : goal.overflow_sub-rest
overflow_sub-rest c = omega (arith, c.loop-home-test.true, c.min-home-end.ensures)

pub offset_bounds-tours-rest : goal.offset_bounds-tours-rest
offset_bounds-tours-rest c = omega (arith, c.requires.rest, c.args.scope.scope.light)

pub bounds-tours-rest : goal.bounds-tours-rest
bounds-tours-rest c = omega (arith, c.requires.rest, c.requires.tours.all)

pub overflow_add-walks : goal.overflow_add-walks
overflow_add-walks c = omega (arith, c.requires.walks.so_far.within (c.loop-home.home * c.args.scope.places + c.from.result), c.requires.tours.so_far.within (c.args.rest - c.loop-home.home))
