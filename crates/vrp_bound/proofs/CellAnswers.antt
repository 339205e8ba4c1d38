-- What the tables hold, moved between equal customers, and the answer from a cell.
use Rattle.std.proofs.Common.{◌≡◌, ◌≢◌, ℕ, ◌-◌, ◌*◌, ◌/◌, ◌<◌, ◌≤◌, List, Option, Some, None, MatchOption, is_some, length, get_or, sym, ap, subst, ◌∙◌, arith}
use Rattle.std.proofs.lemmas.List.{get_or_default}
use Rattle.std.specs.List.{All, Contains}
use Rattle.std.specs.List.Sorted.{IsStrictlyIncreasing}
use Rattle.vrp_model.specs.Problem.{Problem, customers}
use Rattle.vrp_model.specs.Route.{load_of}
use Rattle.vrp_bound.specs.declared.completions.CompletionCells.{CompletionCells}
use Rattle.vrp_bound.specs.declared.completions.Shape.{Shape}
use Rattle.vrp_bound.specs.Inner.CompletionCells.{HasRelaxed, HasTours, IsLeastCell, mark}
use Rattle.vrp_bound.specs.Inner.Filled.{AreCells, AreCellsMade, AreFilled}
use Rattle.vrp_bound.specs.Tables.{AreMade, IsBound}
use Rattle.vrp_bound.specs.NgWalks.{nothing_near}
use Rattle.vrp_bound.specs.Inner.Units.{IsUnit, in_units}
use Rattle.vrp_bound.proofs.FirstTour.{bound_of_cell, least_at_depot, none_of_cell}
use Rattle.vrp_bound.proofs.InUnits.{IsLoadIn, least_in_units, load_floored, none_in_units}
use Rattle.vrp_bound.proofs.WholeUnits.{same_units, units_rise, whole_load}
use Rattle.vrp_bound.proofs.WithoutNgSets.{least_without, none_without}

pub filled_same : (p q : Problem) (among others : List ℕ) (cells : Option CompletionCells) → q ≡ p → others ≡ among → IsStrictlyIncreasing others → All (Contains (customers q)) others → MatchOption cells (AreMade q others → ⊥) (AreCellsMade q others) → AreFilled p among cells
filled_same p q among others cells same_problem same_list rising known filled =
    let there : AreFilled q others cells = record { rising = rising; known = known; filled = filled } in
    subst (λ a. AreFilled p a cells) same_list (subst (λ b. AreFilled b others cells) same_problem there)

-- there is a shape exactly where tables are made
pub shape_made : (p : Problem) (among : List ℕ) (cells : Option CompletionCells) (shape : Option Shape) → is_some shape ≡ is_some cells → AreFilled p among cells → MatchOption shape (AreMade p among → ⊥) (λ _. AreMade p among)
shape_made p among None None same held = held.filled
shape_made p among None (Some shape) same held = absurd (cc)
shape_made p among (Some cells) None same held = absurd (cc)
shape_made p among (Some cells) (Some shape) same held = held.filled.made

pub least_same_list : (p q : Problem) (near : ℕ → List ℕ) (among others : List ℕ) (at load rest cell : ℕ) → q ≡ p → others ≡ among → IsLeastCell (HasRelaxed q near others at load rest) cell → IsLeastCell (HasRelaxed p near among at load rest) cell
least_same_list p q near among others at load rest cell same_problem same_list least =
    subst (λ a. IsLeastCell (HasRelaxed p near a at load rest) cell) same_list (subst (λ b. IsLeastCell (HasRelaxed b near others at load rest) cell) same_problem least)

-- a rest of this many units lies in the table of the tours
pub carried_within : (unit : ℕ) (p : Problem) (among : List ℕ) (rest carried : ℕ) → IsUnit p among unit → rest ≤ load_of p among → carried ≡ rest / unit → carried ≤ load_of (in_units unit p) among
carried_within unit p among rest carried is within carried_is =
    omega (arith, units_rise unit rest (load_of p among) is.some within, whole_load unit p among is, carried_is)

-- of equal customers, in an equal unit
pub carried_within_same : (p q : Problem) (among others : List ℕ) (unit other rest carried : ℕ) → q ≡ p → others ≡ among → other ≡ unit → IsUnit p among unit → rest ≤ load_of p among → carried ≡ rest / other → carried ≤ load_of (in_units other q) others
carried_within_same p q among others unit other rest carried same_problem same_list same_unit is within carried_is =
    same_units (λ b a u. carried ≤ load_of (in_units u b) a) q p others among other unit (sym same_problem) (sym same_list) (sym same_unit)
    (carried_within unit p among rest carried is within (carried_is ∙ ap (λ n. rest / n) same_unit))

pub none_carried : (p : Problem) (near : ℕ → List ℕ) (among : List ℕ) (cells : CompletionCells) (at load rest other carried whole : ℕ) → AreCells p near among cells → load ≤ p.capacity → other ≡ cells.unit → carried ≡ rest / other → whole ≡ carried * cells.unit → whole ≢ rest → IsLeastCell (HasRelaxed p near among at load rest) mark
none_carried p near among cells at load rest other carried whole are light same_unit carried_is whole_is differs =
    none_in_units cells.unit p near among at load rest are.unit light
    (λ same. differs (whole_is ∙ ap (λ n. n * cells.unit) (carried_is ∙ ap (λ n. rest / n) same_unit) ∙ sym same))

-- as many units are carried as the rest has
whole_rest : (unit other rest carried whole : ℕ) → other ≡ unit → carried ≡ rest / other → whole ≡ carried * unit → whole ≡ rest → rest ≡ rest / unit * unit
whole_rest unit other rest carried whole same_unit carried_is whole_is all = sym all ∙ whole_is ∙ ap (λ n. n * unit) (carried_is ∙ ap (λ n. rest / n) same_unit)

pub least_from_depot : (p : Problem) (near : ℕ → List ℕ) (among : List ℕ) (cells : CompletionCells) (at load rest other carried whole cell : ℕ) → AreCells p near among cells → at ≡ 0 → load ≡ 0 → rest ≤ load_of p among → other ≡ cells.unit → carried ≡ rest / other → whole ≡ carried * cells.unit → whole ≡ rest → cell ≡ get_or cells.tours.items carried cell → IsLeastCell (HasRelaxed p near among at load rest) cell
least_from_depot p near among cells at load rest other carried whole cell are none_out empty within same_unit carried_is whole_is all is =
    let unit = cells.unit in
    let q = in_units unit p in
    let units : carried ≡ rest / unit = carried_is ∙ ap (λ n. rest / n) same_unit in
    let inside : carried < length cells.tours.items = omega (arith, are.tours.all, carried_within unit p among rest carried are.unit within units) in
    let here : cell ≡ get_or cells.tours.items carried 0 = is ∙ get_or_default cells.tours.items carried cell 0 inside in
    let tours = subst (IsLeastCell (HasTours q near among carried)) (sym here) (are.tours.so_far.each carried inside) in
    let least = subst (λ n. IsLeastCell (HasRelaxed q near among 0 0 n) cell) units (least_at_depot q near among carried cell tours) in
    let whole_room : p.capacity - 0 ≡ p.capacity = omega arith in
    let empty_units : IsLoadIn unit p.capacity 0 0 = record { light = omega arith; is = omega (arith, ap (λ n. n / unit) whole_room) } in
    subst (λ a. IsLeastCell (HasRelaxed p near among a load rest) cell) (sym none_out)
    (subst (λ l. IsLeastCell (HasRelaxed p near among 0 l rest) cell) (sym empty)
    (least_in_units unit p near among 0 0 0 rest cell are.unit empty_units (whole_rest unit other rest carried whole same_unit carried_is whole_is all) least))

-- from a customer: what the open truck can still take is floored
pub least_from_customer : (p q : Problem) (near : ℕ → List ℕ) (among others : List ℕ) (unit other at load free rest carried whole cell : ℕ) → q ≡ p → others ≡ among → other ≡ unit → IsUnit p among unit → load ≤ p.capacity → free ≡ (p.capacity - load) / other → carried ≡ rest / other → whole ≡ carried * unit → whole ≡ rest
    → IsLeastCell (HasRelaxed (in_units other q) near others at ((in_units other q).capacity - free) carried) cell → IsLeastCell (HasRelaxed p near among at load rest) cell
least_from_customer p q near among others unit other at load free rest carried whole cell same_problem same_list same_unit is light free_is carried_is whole_is all least =
    let moved = same_units (λ b a u. IsLeastCell (HasRelaxed (in_units u b) near a at ((in_units u b).capacity - free) carried) cell) p q among others unit other same_problem same_list same_unit least in
    let units : carried ≡ rest / unit = carried_is ∙ ap (λ n. rest / n) same_unit in
    let left : free ≡ (p.capacity - load) / unit = free_is ∙ ap (λ n. (p.capacity - load) / n) same_unit in
    let here =
    subst (λ n. IsLeastCell (HasRelaxed (in_units unit p) near among at (p.capacity / unit - (p.capacity - load) / unit) n) cell) units
    (subst (λ n. IsLeastCell (HasRelaxed (in_units unit p) near among at (p.capacity / unit - n) carried) cell) left moved) in
    least_in_units unit p near among at load (p.capacity / unit - (p.capacity - load) / unit) rest cell is (load_floored unit p.capacity load is.some light) (whole_rest unit other rest carried whole same_unit carried_is whole_is all) here

pub answer_some : (p : Problem) (among : List ℕ) (cells : CompletionCells) (at load rest cell : ℕ) → AreCellsMade p among cells → IsLeastCell (HasRelaxed p nothing_near among at load rest) cell → cell < mark → IsBound p among at load rest (Some cell)
answer_some p among cells at load rest cell are least small = record {
  made = λ _. least_without p among at load rest cell (bound_of_cell p nothing_near among at load rest cell least small);
  none_made = λ none. absurd (none are.made);
}

pub answer_none : (p : Problem) (among : List ℕ) (cells : CompletionCells) (at load rest cell : ℕ) → AreCellsMade p among cells → rest ≤ load_of p among → IsLeastCell (HasRelaxed p nothing_near among at load rest) cell → mark ≤ cell → IsBound p among at load rest None
answer_none p among cells at load rest cell are within least large = record {
  made = λ _. none_without p among at load rest (none_of_cell p nothing_near among at load rest cell are.are_cells.scope within least large);
  none_made = λ none. absurd (none are.made);
}
