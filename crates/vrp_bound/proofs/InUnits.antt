-- What carries a rest carries as many units of it, at the same cost.
use Rattle.std.proofs.Common.{◌≡◌, ◌≢◌, ℕ, ◌+◌, ◌-◌, ◌*◌, ◌/◌, ◌≤◌, List, get_or, sym, ap, ◌∙◌, arith}
use Rattle.std.specs.List.{All, Contains, sum_by}
use Rattle.vrp_model.specs.Problem.{Problem}
use Rattle.vrp_model.specs.Route.{load_of}
use Rattle.vrp_bound.specs.Inner.CompletionCells.{HasRelaxed, IsLeastCell, mark}
use Rattle.vrp_bound.specs.Inner.Units.{IsUnit, in_units}
use Rattle.vrp_bound.specs.NgWalks.{IsNgTour, IsNgWalk}
use Rattle.vrp_bound.proofs.LeastOfCosts.{least_same}
use Rattle.vrp_bound.proofs.WholeUnits.{load_in, loads_in, units_of_whole, units_rise, units_within, within_of_units}

walk_same : (p q : Problem) (near : ℕ → List ℕ) (among : List ℕ) (at : ℕ) (stops : List ℕ) → IsNgWalk p near among at stops → IsNgWalk q near among at stops
walk_same p q near among at stops walk = record { within = walk.within; fresh = walk.fresh }

tour_to : (unit : ℕ) (p : Problem) (near : ℕ → List ℕ) (among stops : List ℕ) → IsUnit p among unit → IsNgTour p near among stops → IsNgTour (in_units unit p) near among stops
tour_to unit p near among stops is tour =
    let load = load_in unit p among stops is tour.walks.within in
    record {
      leaves = tour.leaves;
      walks = walk_same p (in_units unit p) near among 0 stops tour.walks;
      fits = units_within unit (load_of (in_units unit p) stops) p.capacity is.some (omega (arith, load, tour.fits));
    }

tour_from : (unit : ℕ) (p : Problem) (near : ℕ → List ℕ) (among stops : List ℕ) → IsUnit p among unit → IsNgTour (in_units unit p) near among stops → IsNgTour p near among stops
tour_from unit p near among stops is tour =
    let load = load_in unit p among stops is tour.walks.within in
    record {
      leaves = tour.leaves;
      walks = walk_same (in_units unit p) p near among 0 stops tour.walks;
      fits = omega (arith, load, within_of_units unit (load_of (in_units unit p) stops) p.capacity tour.fits);
    }

-- the load of the open truck in units: what it can still take is floored
pub record IsLoadIn (unit capacity load load_units : ℕ) : Type 0 where
  pub light : load ≤ capacity
  pub is : load_units + (capacity - load) / unit ≡ capacity / unit

-- so there is one
pub load_floored : (unit capacity load : ℕ) → 1 ≤ unit → load ≤ capacity → IsLoadIn unit capacity load (capacity / unit - (capacity - load) / unit)
load_floored unit capacity load some light = record { light = light; is = omega (arith, units_rise unit (capacity - load) capacity some (omega arith)) }

-- the same loads, as units
record AreCarried (unit home_load tours_load home_units tours_units : ℕ) : Type 0 where
  home_is : home_load ≡ home_units * unit
  tours_are : tours_load ≡ tours_units * unit

carried : (unit : ℕ) (p : Problem) (among home : List ℕ) (tours : List (List ℕ)) → IsUnit p among unit → All (Contains among) home → All (All (Contains among)) tours → AreCarried unit (load_of p home) (sum_by (load_of p) tours) (load_of (in_units unit p) home) (sum_by (load_of (in_units unit p)) tours)
carried unit p among home tours is home_within tours_within = record {
  home_is = load_in unit p among home is home_within;
  tours_are = loads_in unit p among tours is tours_within;
}

rest_is : (unit home_load tours_load home_units tours_units rest : ℕ) → AreCarried unit home_load tours_load home_units tours_units → home_load + tours_load ≡ rest → rest ≡ (home_units + tours_units) * unit
rest_is unit home_load tours_load home_units tours_units rest are whole =
    let parts : (home_units + tours_units) * unit ≡ home_units * unit + tours_units * unit = omega arith in
    omega (arith, are.home_is, are.tours_are, whole, parts)

-- what carries a rest, in units
pub record IsRelaxedIn (unit : ℕ) (p : Problem) (near : ℕ → List ℕ) (among : List ℕ) (at load_units rest cost : ℕ) : Type 0 where
  pub whole : rest ≡ rest / unit * unit
  pub has : HasRelaxed (in_units unit p) near among at load_units (rest / unit) cost

pub to_units : (unit : ℕ) (p : Problem) (near : ℕ → List ℕ) (among : List ℕ) (at load load_units rest cost : ℕ) → IsUnit p among unit → IsLoadIn unit p.capacity load load_units → HasRelaxed p near among at load rest cost → IsRelaxedIn unit p near among at load_units rest cost
to_units unit p near among at load load_units rest cost is load_in has =
    let q = in_units unit p in
    let relaxed = has.relaxed in
    let home = load_of q has.home in
    let tours = sum_by (load_of q) has.tours in
    let are = carried unit p among has.home has.tours is relaxed.walks.within (λ k d lt. (relaxed.each k d lt).walks.within) in
    let all : rest ≡ (home + tours) * unit = rest_is unit (load_of p has.home) (sum_by (load_of p) has.tours) home tours rest are relaxed.whole in
    let units : rest / unit ≡ home + tours = ap (λ n. n / unit) all ∙ units_of_whole unit (home + tours) is.some in
    let room : home ≤ (p.capacity - load) / unit = units_within unit home (p.capacity - load) is.some (omega (arith, are.home_is, relaxed.fits)) in
    record {
      whole = all ∙ ap (λ n. n * unit) (sym units);
      has = record {
        home = has.home;
        tours = has.tours;
        relaxed = record {
          walks = walk_same p q near among at has.home relaxed.walks;
          none_out = relaxed.none_out;
          fits = omega (arith, room, load_in.is);
          each = λ k d lt. tour_to unit p near among (get_or has.tours k d) is (relaxed.each k d lt);
          whole = sym units;
        };
        costs = has.costs;
      };
    }

pub from_units : (unit : ℕ) (p : Problem) (near : ℕ → List ℕ) (among : List ℕ) (at load load_units rest cost : ℕ) → IsUnit p among unit → IsLoadIn unit p.capacity load load_units → IsRelaxedIn unit p near among at load_units rest cost → HasRelaxed p near among at load rest cost
from_units unit p near among at load load_units rest cost is load_in relaxed_in =
    let q = in_units unit p in
    let has = relaxed_in.has in
    let relaxed = has.relaxed in
    let home = load_of q has.home in
    let tours = sum_by (load_of q) has.tours in
    let are = carried unit p among has.home has.tours is relaxed.walks.within (λ k d lt. (relaxed.each k d lt).walks.within) in
    let parts : (home + tours) * unit ≡ home * unit + tours * unit = omega arith in
    let all : (home + tours) * unit ≡ rest / unit * unit = ap (λ n. n * unit) relaxed.whole in
    let room : home ≤ (p.capacity - load) / unit = omega (arith, relaxed.fits, load_in.is) in
    let fits = within_of_units unit home (p.capacity - load) room in
    record {
      home = has.home;
      tours = has.tours;
      relaxed = record {
        walks = walk_same q p near among at has.home relaxed.walks;
        none_out = relaxed.none_out;
        fits = omega (arith, are.home_is, fits, load_in.light);
        each = λ k d lt. tour_from unit p near among (get_or has.tours k d) is (relaxed.each k d lt);
        whole = omega (arith, are.home_is, are.tours_are, parts, all, relaxed_in.whole);
      };
      costs = has.costs;
    }

-- the least cost of as many units
pub least_in_units : (unit : ℕ) (p : Problem) (near : ℕ → List ℕ) (among : List ℕ) (at load load_units rest cell : ℕ) → IsUnit p among unit → IsLoadIn unit p.capacity load load_units → rest ≡ rest / unit * unit → IsLeastCell (HasRelaxed (in_units unit p) near among at load_units (rest / unit)) cell → IsLeastCell (HasRelaxed p near among at load rest) cell
least_in_units unit p near among at load load_units rest cell is load_in whole least =
    least_same (HasRelaxed (in_units unit p) near among at load_units (rest / unit)) (HasRelaxed p near among at load rest) cell
    (λ cost has. from_units unit p near among at load load_units rest cost is load_in (record { whole = whole; has = has }))
    (λ cost has. (to_units unit p near among at load load_units rest cost is load_in has).has)
    least

-- a rest that is no whole number of units is carried by nothing
pub none_in_units : (unit : ℕ) (p : Problem) (near : ℕ → List ℕ) (among : List ℕ) (at load rest : ℕ) → IsUnit p among unit → load ≤ p.capacity → rest ≢ rest / unit * unit → IsLeastCell (HasRelaxed p near among at load rest) mark
none_in_units unit p near among at load rest is light broken = record {
  met = λ small. absurd (omega (arith, small));
  least = λ cost has.
      let load_units = p.capacity / unit - (p.capacity - load) / unit in
      absurd (broken (to_units unit p near among at load load_units rest cost is (load_floored unit p.capacity load is.some light) has).whole);
}
