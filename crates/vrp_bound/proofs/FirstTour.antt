-- Tours, and what carries the rest, taken apart into a first walk and what is behind it.
use Rattle.std.proofs.Common.{◌≡◌, ◌≢◌, ℕ, zero, suc, ◌+◌, ◌-◌, ◌*◌, ◌<◌, ◌≤◌, min, List, [], ◌∷◌, sym, ◌∙◌, ap, refl, arith}
use Rattle.std.specs.List.{All, Contains, sum_by}
use Rattle.std.proofs.lemmas.List.Elements.{All-cons, All-tail}
use Rattle.std.proofs.lemmas.List.Sums.{sum_by-cons}
use Rattle.vrp_model.specs.Problem.{Problem}
use Rattle.vrp_model.specs.Route.{load_of}
use Rattle.vrp_bound.specs.Inner.CompletionCells.{HasRelaxed, HasTours, HasWalk, IsLeastCell, mark}
use Rattle.vrp_bound.specs.Inner.Scope.{IsScope}
use Rattle.vrp_bound.specs.Tables.{room_of}
use Rattle.vrp_bound.specs.Walk.{home_cost, relaxed_cost, walk_cost}
use Rattle.vrp_bound.specs.NgWalks.{IsLeastNgRelaxed, IsNgRelaxed, IsNgTour, NoneNgRelaxed}
use Rattle.vrp_bound.proofs.LeastOfCosts.{IsCostBelow, IsSum, least_same, least_sum}
use Rattle.vrp_bound.proofs.FirstStep.{no_load_no_stop, small_walk}

-- a tour takes up something
pub tour_carries : (p : Problem) (near : ℕ → List ℕ) (among stops : List ℕ) → IsScope p among → IsNgTour p near among stops → 1 ≤ load_of p stops
tour_carries p near among stops scope tour =
    let none : load_of p stops ≢ 0 = λ none. tour.leaves (no_load_no_stop p among stops scope tour.walks.within none) in
    omega (arith, none)

-- tours cost little
pub small_tours : (p : Problem) (near : ℕ → List ℕ) (among : List ℕ) (tours : List (List ℕ)) → IsScope p among → All (IsNgTour p near among) tours → sum_by (walk_cost p 0) tours ≤ 2000000000 * sum_by (load_of p) tours
small_tours p near among [] scope each = omega arith
small_tours p near among (tour ∷ tours) scope each =
    let first = each 0 tour (omega arith) in
    let behind = small_tours p near among tours scope (All-tail (IsNgTour p near among) tour tours each) in
    omega (arith, behind, small_walk p among 0 tour scope first.walks.within, tour_carries p near among tour scope first, sum_by-cons (walk_cost p 0) tour tours, sum_by-cons (load_of p) tour tours)

-- no tours at all
pub least_no_tours : (p : Problem) (near : ℕ → List ℕ) (among : List ℕ) → IsLeastCell (HasTours p near among 0) 0
least_no_tours p near among = record {
  met = λ small. record { tours = []; each = λ k d lt. absurd (omega (arith, lt)); whole = refl; costs = refl };
  least = λ cost has. omega arith;
}

-- a first tour with this load, and the tours behind it
pub record IsFirstTour (p : Problem) (near : ℕ → List ℕ) (among : List ℕ) (rest load cost : ℕ) : Type 0 where
  pub some : 1 ≤ load
  pub carried : load ≤ p.capacity
  pub fits : load ≤ rest
  pub parts : IsSum (HasWalk p near among 0 load) (HasTours p near among (rest - load)) cost

pub least_first_tour : (p : Problem) (near : ℕ → List ℕ) (among : List ℕ) (rest load walk tours : ℕ) → 1 ≤ load → load ≤ p.capacity → load ≤ rest → IsLeastCell (HasWalk p near among 0 load) walk → IsLeastCell (HasTours p near among (rest - load)) tours → IsLeastCell (IsFirstTour p near among rest load) (walk + tours)
least_first_tour p near among rest load walk tours some carried fits least_walk least_tours =
    least_same (IsSum (HasWalk p near among 0 load) (HasTours p near among (rest - load))) (IsFirstTour p near among rest load) (walk + tours)
    (λ cost parts. record { some = some; carried = carried; fits = fits; parts = parts })
    (λ cost first. first.parts)
    (least_sum (HasWalk p near among 0 load) (HasTours p near among (rest - load)) walk tours least_walk least_tours)

first_of_tours : (p : Problem) (near : ℕ → List ℕ) (among : List ℕ) (rest cost : ℕ) (tours : List (List ℕ)) → IsScope p among → 0 < rest → rest ≤ load_of p among → All (IsNgTour p near among) tours → sum_by (load_of p) tours ≡ rest → sum_by (walk_cost p 0) tours ≡ cost → IsCostBelow (IsFirstTour p near among rest) (min (room_of p among) rest + 1) cost
first_of_tours p near among rest cost [] scope some within each whole costs = absurd (omega (arith, some, whole))
first_of_tours p near among rest cost (tour ∷ tours) scope some within each whole costs =
    let first = each 0 tour (omega arith) in
    let load = load_of p tour in
    let loads = sum_by-cons (load_of p) tour tours in
    let fits : load ≤ rest = omega (arith, loads, whole) in
    record {
      arc = load;
      below = omega (arith, fits, first.fits, within);
      has = record {
        some = tour_carries p near among tour scope first;
        carried = first.fits;
        fits = fits;
        parts = record {
          first = walk_cost p 0 tour;
          second = sum_by (walk_cost p 0) tours;
          has_first = record { stops = tour; walks = first.walks; loaded = refl; costs = refl };
          has_second = record { tours = tours; each = All-tail (IsNgTour p near among) tour tours each; whole = omega (arith, loads, whole); costs = refl };
          whole = sym costs ∙ sum_by-cons (walk_cost p 0) tour tours;
        };
      };
    }

-- tours that carry something are a first tour and the tours behind it
pub tours_are_first : (p : Problem) (near : ℕ → List ℕ) (among : List ℕ) (rest cost : ℕ) → IsScope p among → 0 < rest → rest ≤ load_of p among → HasTours p near among rest cost → IsCostBelow (IsFirstTour p near among rest) (min (room_of p among) rest + 1) cost
tours_are_first p near among rest cost scope some within has = first_of_tours p near among rest cost has.tours scope some within has.each has.whole has.costs

pub first_is_tours : (p : Problem) (near : ℕ → List ℕ) (among : List ℕ) (rest arcs cost : ℕ) → IsCostBelow (IsFirstTour p near among rest) arcs cost → HasTours p near among rest cost
first_is_tours p near among rest arcs cost below =
    let first = below.has in
    let walk = first.parts.has_first in
    let behind = first.parts.has_second in
    let tour : IsNgTour p near among walk.stops = record {
      leaves = λ none. absurd (omega (arith, first.some, walk.loaded, ap (load_of p) none));
      walks = walk.walks;
      fits = omega (arith, walk.loaded, first.carried);
    } in
    record {
      tours = walk.stops ∷ behind.tours;
      each = All-cons (IsNgTour p near among) walk.stops behind.tours tour behind.each;
      whole = omega (arith, sum_by-cons (load_of p) walk.stops behind.tours, walk.loaded, behind.whole, first.fits);
      costs = omega (arith, sum_by-cons (walk_cost p 0) walk.stops behind.tours, walk.costs, behind.costs, first.parts.whole);
    }

-- the open truck's walk home with this load, and tours
pub record IsCompletionWith (p : Problem) (near : ℕ → List ℕ) (among : List ℕ) (at rest home cost : ℕ) : Type 0 where
  pub fits : home ≤ rest
  pub parts : IsSum (HasWalk p near among at home) (HasTours p near among (rest - home)) cost

pub least_home : (p : Problem) (near : ℕ → List ℕ) (among : List ℕ) (at rest home walk tours : ℕ) → home ≤ rest → IsLeastCell (HasWalk p near among at home) walk → IsLeastCell (HasTours p near among (rest - home)) tours → IsLeastCell (IsCompletionWith p near among at rest home) (walk + tours)
least_home p near among at rest home walk tours fits least_walk least_tours =
    least_same (IsSum (HasWalk p near among at home) (HasTours p near among (rest - home))) (IsCompletionWith p near among at rest home) (walk + tours)
    (λ cost parts. record { fits = fits; parts = parts })
    (λ cost arc. arc.parts)
    (least_sum (HasWalk p near among at home) (HasTours p near among (rest - home)) walk tours least_walk least_tours)

home_at_customer : (p : Problem) (at : ℕ) (home : List ℕ) → at ≢ 0 → home_cost p at home ≡ walk_cost p at home
home_at_customer p zero home out = absurd (out refl)
home_at_customer p (suc k) home out = refl

-- in so much room each walk home finds place
pub relaxed_is_home : (p : Problem) (near : ℕ → List ℕ) (among : List ℕ) (at load rest room cost : ℕ) → at ≢ 0 → min (p.capacity - load) rest ≤ room → HasRelaxed p near among at load rest cost → IsCostBelow (IsCompletionWith p near among at rest) (room + 1) cost
relaxed_is_home p near among at load rest room cost out enough has =
    let is = has.relaxed in
    let home = load_of p has.home in
    record {
      arc = home;
      below = omega (arith, is.fits, is.whole, enough);
      has = record {
        fits = omega (arith, is.whole);
        parts = record {
          first = walk_cost p at has.home;
          second = sum_by (walk_cost p 0) has.tours;
          has_first = record { stops = has.home; walks = is.walks; loaded = refl; costs = refl };
          has_second = record { tours = has.tours; each = is.each; whole = omega (arith, is.whole); costs = refl };
          whole = omega (arith, has.costs, home_at_customer p at has.home out);
        };
      };
    }

pub home_is_relaxed : (p : Problem) (near : ℕ → List ℕ) (among : List ℕ) (at load rest room cost : ℕ) → at ≢ 0 → load ≤ p.capacity → room ≤ p.capacity - load → IsCostBelow (IsCompletionWith p near among at rest) (room + 1) cost → HasRelaxed p near among at load rest cost
home_is_relaxed p near among at load rest room cost out light carried below =
    let arc = below.has in
    let walk = arc.parts.has_first in
    let behind = arc.parts.has_second in
    record {
      home = walk.stops;
      tours = behind.tours;
      relaxed = record {
        walks = walk.walks;
        none_out = λ none. absurd (out none);
        fits = omega (arith, below.below, carried, light, walk.loaded);
        each = behind.each;
        whole = omega (arith, walk.loaded, behind.whole, arc.fits);
      };
      costs = omega (arith, home_at_customer p at walk.stops out, walk.costs, behind.costs, arc.parts.whole);
    }

-- an arc home costs little
pub small_completion : (p : Problem) (near : ℕ → List ℕ) (among : List ℕ) (at rest home cost : ℕ) → IsScope p among → rest ≤ load_of p among → IsCompletionWith p near among at rest home cost → cost < mark
small_completion p near among at rest home cost scope within arc =
    let walk = arc.parts.has_first in
    let behind = arc.parts.has_second in
    omega (arith, scope.light, within, arc.fits, arc.parts.whole, walk.loaded, walk.costs, behind.whole, behind.costs, small_walk p among at walk.stops scope walk.walks.within, small_tours p near among behind.tours scope behind.each)

-- at the depot tours alone carry the rest
pub least_at_depot : (p : Problem) (near : ℕ → List ℕ) (among : List ℕ) (rest cell : ℕ) → IsLeastCell (HasTours p near among rest) cell → IsLeastCell (HasRelaxed p near among 0 0 rest) cell
least_at_depot p near among rest cell least =
    least_same (HasTours p near among rest) (HasRelaxed p near among 0 0 rest) cell
    (λ cost has. record {
      home = [];
      tours = has.tours;
      relaxed = record {
        walks = record { within = λ k d lt. absurd (omega (arith, lt)); fresh = tt };
        none_out = λ _. refl;
        fits = omega arith;
        each = has.each;
        whole = omega (arith, has.whole);
      };
      costs = omega (arith, has.costs);
    })
    (λ cost has.
    let none : load_of p has.home ≡ 0 = ap (load_of p) (has.relaxed.none_out refl) in
    record { tours = has.tours; each = has.relaxed.each; whole = omega (arith, none, has.relaxed.whole); costs = omega (arith, has.costs) })
    least

small_home : (p : Problem) (among : List ℕ) (at : ℕ) (home : List ℕ) → IsScope p among → All (Contains among) home → home_cost p at home ≤ 1000000000 * load_of p home + 1000000000
small_home p among zero home scope within = omega arith
small_home p among (suc k) home scope within = small_walk p among (suc k) home scope within

-- every cost is below the mark
pub small_relaxed : (p : Problem) (near : ℕ → List ℕ) (among : List ℕ) (at load rest : ℕ) (home : List ℕ) (tours : List (List ℕ)) → IsScope p among → rest ≤ load_of p among → IsNgRelaxed p near among at load rest home tours → relaxed_cost p at home tours < mark
small_relaxed p near among at load rest home tours scope within is =
    omega (arith, scope.light, within, is.whole, small_home p among at home scope is.walks.within, small_tours p near among tours scope is.each)

pub bound_of_cell : (p : Problem) (near : ℕ → List ℕ) (among : List ℕ) (at load rest cell : ℕ) → IsLeastCell (HasRelaxed p near among at load rest) cell → cell < mark → IsLeastNgRelaxed p near among at load rest cell
bound_of_cell p near among at load rest cell least small =
    let has = least.met small in
    record {
      met = (has.home, has.tours, has.relaxed, has.costs);
      least = λ home tours is. least.least (relaxed_cost p at home tours) (record { home = home; tours = tours; relaxed = is; costs = refl });
    }

pub none_of_cell : (p : Problem) (near : ℕ → List ℕ) (among : List ℕ) (at load rest cell : ℕ) → IsScope p among → rest ≤ load_of p among → IsLeastCell (HasRelaxed p near among at load rest) cell → mark ≤ cell → NoneNgRelaxed p near among at load rest
none_of_cell p near among at load rest cell scope within least large = λ home tours is.
    let low = least.least (relaxed_cost p at home tours) (record { home = home; tours = tours; relaxed = is; costs = refl }) in
    absurd (omega (arith, low, large, small_relaxed p near among at load rest home tours scope within is))
