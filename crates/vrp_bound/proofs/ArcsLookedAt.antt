-- One more arc looked at, in the search for the least.
use Rattle.std.proofs.Common.{◌≡◌, ◌≢◌, ℕ, ◌+◌, ◌-◌, ◌*◌, ◌<◌, ◌≤◌, min, List, length, get_or, sym, subst, arith}
use Rattle.std.proofs.lemmas.Nat.{mul-le}
use Rattle.vrp_model.specs.Problem.{Problem, demand_of, place_count, weight_of}
use Rattle.vrp_model.specs.Route.{load_of}
use Rattle.vrp_bound.specs.Inner.CompletionCells.{AreTours, AreToursSoFar, AreWalks, AreWalksSoFar, HasRelaxed, HasTours, HasWalk, IsLeastCell}
use Rattle.vrp_bound.specs.Inner.Scope.{IsScope}
use Rattle.vrp_bound.specs.NgWalks.{nothing_near}
use Rattle.vrp_bound.specs.Tables.{room_of}
use Rattle.vrp_bound.proofs.FilledTables.{walk_cell}
use Rattle.vrp_bound.proofs.FirstStep.{IsStep, least_step, step_is_walk, walk_is_step}
use Rattle.vrp_bound.proofs.FirstTour.{IsFirstTour, IsCompletionWith, first_is_tours, home_is_relaxed, least_first_tour, least_home, relaxed_is_home, tours_are_first}
use Rattle.vrp_bound.proofs.LeastOfCosts.{IsCostBelow, least_more, least_same, least_skipped}

-- a row of the cells lies before the next
pub row_before : (a b n : ℕ) → a < b → a * n + n ≤ b * n
row_before a b n less = omega (arith, mul-le (a + 1) n b n (omega arith) (omega arith))

-- what is left at a first stop lies among the cells so far
pub behind_is_so_far : (load demand places stop at : ℕ) → 1 ≤ demand → demand ≤ load → stop < places → (load - demand) * places + stop < load * places + at
behind_is_so_far load demand places stop at some fits inside = omega (arith, row_before (load - demand) load places (omega arith), inside)

pub step_looked : (p : Problem) (near : ℕ → List ℕ) (among cells : List ℕ) (at load k index best new : ℕ) → IsScope p among → AreWalksSoFar p near among cells → length cells ≡ load * place_count p + at → k < length among → get_or among k 0 ≢ at → demand_of p (get_or among k 0) ≤ load → index ≡ (load - demand_of p (get_or among k 0)) * place_count p + get_or among k 0 → IsLeastCell (IsCostBelow (IsStep p near among at load) k) best → new ≡ min best (weight_of p at (get_or among k 0) + get_or cells index 0) → IsLeastCell (IsCostBelow (IsStep p near among at load) (k + 1)) new
step_looked p near among cells at load k index best new scope so_far next inside differs fits is least looked =
    let c = get_or among k 0 in
    let place : c < place_count p = scope.places k 0 inside in
    let some : 1 ≤ demand_of p c = scope.demands k 0 inside in
    let within : index < length cells = omega (arith, is, next, behind_is_so_far load (demand_of p c) (place_count p) c at some fits place) in
    let cell = walk_cell p near among cells index (load - demand_of p c) c is place within so_far in
    subst (IsLeastCell (IsCostBelow (IsStep p near among at load) (k + 1))) (sym looked)
    (least_more (IsStep p near among at load) k best (weight_of p at c + get_or cells index 0) least (least_step p near among at load k (get_or cells index 0) inside differs fits cell))

pub step_skipped : (p : Problem) (near : ℕ → List ℕ) (among : List ℕ) (at load k best : ℕ) → (get_or among k 0 ≢ at → demand_of p (get_or among k 0) ≤ load → ⊥) → IsLeastCell (IsCostBelow (IsStep p near among at load) k) best → IsLeastCell (IsCostBelow (IsStep p near among at load) (k + 1)) best
step_skipped p near among at load k best none least = least_skipped (IsStep p near among at load) k best least (λ cost step. none step.differs step.fits)

pub steps_looked : (p : Problem) (among : List ℕ) (at load k best : ℕ) → 0 < load → k ≡ length among → IsLeastCell (IsCostBelow (IsStep p nothing_near among at load) k) best → IsLeastCell (HasWalk p nothing_near among at load) best
steps_looked p among at load k best some all least =
    least_same (IsCostBelow (IsStep p nothing_near among at load) (length among)) (HasWalk p nothing_near among at load) best
    (λ cost. step_is_walk p among at load cost)
    (λ cost. walk_is_step p nothing_near among at load cost some)
    (subst (λ n. IsLeastCell (IsCostBelow (IsStep p nothing_near among at load) n) best) all least)

-- the cell of a walk, by its index
full_walk_cell : (p : Problem) (near : ℕ → List ℕ) (among walks : List ℕ) (load at index : ℕ) → AreWalks p near among walks → load ≤ room_of p among → at < place_count p → index ≡ load * place_count p + at → IsLeastCell (HasWalk p near among at load) (get_or walks index 0)
full_walk_cell p near among walks load at index are fits place is =
    let within : index < length walks = omega (arith, is, are.all, place, row_before load (room_of p among + 1) (place_count p) (omega (arith, fits))) in
    walk_cell p near among walks index load at is place within are.so_far

pub tour_looked : (p : Problem) (near : ℕ → List ℕ) (among walks cells : List ℕ) (rest load index best new : ℕ) → AreWalks p near among walks → AreToursSoFar p near among cells → rest ≡ length cells → 1 ≤ load → load < min (room_of p among) rest + 1 → 0 < place_count p → index ≡ load * place_count p → IsLeastCell (IsCostBelow (IsFirstTour p near among rest) load) best → new ≡ min best (get_or walks index 0 + get_or cells (rest - load) 0) → IsLeastCell (IsCostBelow (IsFirstTour p near among rest) (load + 1)) new
tour_looked p near among walks cells rest load index best new are so_far next some below places is least looked =
    let walk = full_walk_cell p near among walks load 0 index are (omega (arith, below)) places (omega (arith, is)) in
    let tours = so_far.each (rest - load) (omega (arith, next, some, below)) in
    subst (IsLeastCell (IsCostBelow (IsFirstTour p near among rest) (load + 1))) (sym looked)
    (least_more (IsFirstTour p near among rest) load best (get_or walks index 0 + get_or cells (rest - load) 0) least
    (least_first_tour p near among rest load (get_or walks index 0) (get_or cells (rest - load) 0) some (omega (arith, below)) (omega (arith, below)) walk tours))

-- the cell of a walk and that of the tours behind it
pub least_completion_cells : (p : Problem) (near : ℕ → List ℕ) (among walks tours : List ℕ) (at rest home index : ℕ) → AreWalks p near among walks → AreTours p near among tours → at < place_count p → home ≤ room_of p among → home ≤ rest → rest ≤ load_of p among → index ≡ home * place_count p + at → IsLeastCell (IsCompletionWith p near among at rest home) (get_or walks index 0 + get_or tours (rest - home) 0)
least_completion_cells p near among walks tours at rest home index are have place carried fits within is =
    let walk = full_walk_cell p near among walks home at index are carried place is in
    let behind = have.so_far.each (rest - home) (omega (arith, have.all, within)) in
    least_home p near among at rest home (get_or walks index 0) (get_or tours (rest - home) 0) fits walk behind

pub completion_looked : (p : Problem) (near : ℕ → List ℕ) (among walks tours : List ℕ) (at load rest home index best new : ℕ) → AreWalks p near among walks → AreTours p near among tours → at < place_count p → rest ≤ load_of p among → home < min (p.capacity - load) rest + 1 → index ≡ home * place_count p + at → IsLeastCell (IsCostBelow (IsCompletionWith p near among at rest) home) best → new ≡ min best (get_or walks index 0 + get_or tours (rest - home) 0) → IsLeastCell (IsCostBelow (IsCompletionWith p near among at rest) (home + 1)) new
completion_looked p near among walks tours at load rest home index best new are have place within below is least looked =
    let here = least_completion_cells p near among walks tours at rest home index are have place (omega (arith, below, within)) (omega (arith, below)) within is in
    subst (IsLeastCell (IsCostBelow (IsCompletionWith p near among at rest) (home + 1))) (sym looked)
    (least_more (IsCompletionWith p near among at rest) home best (get_or walks index 0 + get_or tours (rest - home) 0) least here)

pub tours_looked : (p : Problem) (near : ℕ → List ℕ) (among : List ℕ) (rest load best : ℕ) → IsScope p among → 0 < rest → rest ≤ load_of p among → load ≡ min (room_of p among) rest + 1 → IsLeastCell (IsCostBelow (IsFirstTour p near among rest) load) best → IsLeastCell (HasTours p near among rest) best
tours_looked p near among rest load best scope some within all least =
    least_same (IsCostBelow (IsFirstTour p near among rest) (min (room_of p among) rest + 1)) (HasTours p near among rest) best
    (λ cost. first_is_tours p near among rest (min (room_of p among) rest + 1) cost)
    (λ cost. tours_are_first p near among rest cost scope some within)
    (subst (λ n. IsLeastCell (IsCostBelow (IsFirstTour p near among rest) n) best) all least)

pub completions_looked : (p : Problem) (near : ℕ → List ℕ) (among : List ℕ) (at load rest home best : ℕ) → at ≢ 0 → load ≤ p.capacity → home ≡ min (p.capacity - load) rest + 1 → IsLeastCell (IsCostBelow (IsCompletionWith p near among at rest) home) best → IsLeastCell (HasRelaxed p near among at load rest) best
completions_looked p near among at load rest home best out light all least =
    let room = min (p.capacity - load) rest in
    least_same (IsCostBelow (IsCompletionWith p near among at rest) (room + 1)) (HasRelaxed p near among at load rest) best
    (λ cost. home_is_relaxed p near among at load rest room cost out light (omega arith))
    (λ cost. relaxed_is_home p near among at load rest room cost out (omega arith))
    (subst (λ n. IsLeastCell (IsCostBelow (IsCompletionWith p near among at rest) n) best) all least)
