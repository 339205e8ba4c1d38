use Rattle.std.proofs.Common.{◌≡◌, ◌+◌, ◌*◌, ◌-◌, [], length, refl, ap, sym, arith}
use Rattle.vrp_model.specs.Problem.{place_count}
use Rattle.vrp_bound.specs.Inner.Scaled.{near_by}
use Rattle.vrp_bound.specs.Inner.Units.{in_units}
use Rattle.vrp_bound.specs.Tables.{room_of}
use Rattle.vrp_bound.proofs.FirstTour.{IsFirstTour}
use Rattle.vrp_bound.proofs.LeastOfCosts.{least_none}
use Rattle.vrp_bound.proofs.SmallRows.{row_small}
use Rattle.vrp_bound.proofs.ArcsLookedAt.{row_before, tour_looked, tours_looked}
use Rattle.vrp_bound.proofs.tours.least_tours.Goals as goal

pub loop-load-preserved : goal.loop-load-preserved
loop-load-preserved c =
    let p = in_units c.args.scope.unit c.args.scope.instance.now in
    let among = c.args.scope.customers.now in
    let rest = length c.args.cells.now in
    let load = c.loop-load.load in
    let places : c.args.scope.places ≡ place_count p = c.args.scope.counted in
    record {
      least = tour_looked p (near_by c.args.scope) among c.args.walks.now c.args.cells.now rest load (load * c.args.scope.places) c.loop-load.least c.min-least.result c.requires.walks c.requires.so_far refl c.loop-load.auto.load
          (omega (arith, c.loop-load-test.true, c.min-load-end.ensures, c.requires.room)) (omega (arith, places)) (ap (λ n. load * n) places) c.loop-load.invariant.least c.min-least.ensures;
      within = omega (arith, c.min-least.ensures, c.loop-load.invariant.within);
    }

pub returns-clause-least : goal.returns-clause-least
returns-clause-least c =
    tours_looked (in_units c.args.scope.unit c.args.scope.instance.now) (near_by c.args.scope) c.args.scope.customers.now (length c.args.cells.now) c.loop-load.load c.loop-load.least c.args.scope.scope (omega (arith, c.if-rest-eq0.false)) c.requires.rest
    (omega (arith, c.loop-load-test.false, c.loop-load.auto.load-end, c.min-load-end.ensures, c.requires.room)) c.loop-load.invariant.least

pub returns-then-rest-eq0-clause-least : goal.returns-then-rest-eq0-clause-least
returns-then-rest-eq0-clause-least c = record {
  met = λ _. record { tours = []; each = λ k d inside. absurd (omega (arith, inside)); whole = sym c.if-rest-eq0.true; costs = refl };
  least = λ cost has. omega arith;
}

pub overflow_add-load-end : goal.overflow_add-load-end
overflow_add-load-end c = omega (arith, c.min-load-end.ensures, c.requires.rest, c.args.scope.scope.light)

pub loop-load-init : goal.loop-load-init
loop-load-init c = record {
  least = least_none (IsFirstTour (in_units c.args.scope.unit c.args.scope.instance.now) (near_by c.args.scope) c.args.scope.customers.now (length c.args.cells.now)) 1 (λ arc cost below has. absurd (omega (arith, below, has.some)));
  within = omega arith;
}

pub overflow_mul-load : goal.overflow_mul-load
overflow_mul-load c = omega (arith, row_small c.loop-load.load c.args.scope.places (omega (arith, c.loop-load-test.true, c.min-load-end.ensures, c.requires.rest, c.args.scope.scope.light)) (omega (arith, c.args.scope.counted, c.args.scope.scope.problem.few_places)))

pub offset_bounds-walks-load : goal.offset_bounds-walks-load
offset_bounds-walks-load c = omega (arith, row_small c.loop-load.load c.args.scope.places (omega (arith, c.loop-load-test.true, c.min-load-end.ensures, c.requires.rest, c.args.scope.scope.light)) (omega (arith, c.args.scope.counted, c.args.scope.scope.problem.few_places)))

pub bounds-walks-load : goal.bounds-walks-load
bounds-walks-load c =
    let p = in_units c.args.scope.unit c.args.scope.instance.now in
    let among = c.args.scope.customers.now in
    let load = c.loop-load.load in
    let row : load * c.args.scope.places ≡ load * place_count p = ap (λ n. load * n) c.args.scope.counted in
    omega (arith, row, row_before load (room_of p among + 1) (place_count p) (omega (arith, c.loop-load-test.true, c.min-load-end.ensures, c.requires.room)), c.requires.walks.all, c.args.scope.scope.problem.some_places)

pub overflow_sub-rest : goal.overflow_sub-rest
overflow_sub-rest c = omega (arith, c.loop-load-test.true, c.min-load-end.ensures)

pub offset_bounds-cells-rest : goal.offset_bounds-cells-rest
offset_bounds-cells-rest c = omega (arith, c.requires.rest, c.args.scope.scope.light)

pub bounds-cells-rest : goal.bounds-cells-rest
bounds-cells-rest c = omega (arith, c.loop-load-test.true, c.min-load-end.ensures, c.loop-load.auto.load)

pub overflow_add-walks : goal.overflow_add-walks
overflow_add-walks c = omega (arith, c.requires.walks.so_far.within (c.loop-load.load * c.args.scope.places), c.requires.so_far.within (length c.args.cells.now - c.loop-load.load))

pub returns-clause-within : goal.returns-clause-within
returns-clause-within c = c.loop-load.invariant.within
