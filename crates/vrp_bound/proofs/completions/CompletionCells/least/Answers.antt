use Rattle.std.proofs.Common.{◌≡◌, ℕ, ◌-◌, ◌*◌, ◌/◌, ◌≤◌, List, Option, Vec, Global, IfSome, ap, refl, subst, sym, ◌∙◌, arith}
use Rattle.std.proofs.Math.Nat.{div-mul-le_self}
use Rattle.vrp_model.specs.Problem.{Problem, place_count}
use Rattle.vrp_bound.specs.Inner.CompletionCells.{IsCompletionTable, AreTours, AreWalks, HasRelaxed, IsLeastCell}
use Rattle.vrp_bound.specs.Inner.Scaled.{near_by, near_with, scaled}
use Rattle.vrp_bound.specs.Inner.Units.{in_units}
use Rattle.vrp_bound.specs.Tables.{room_of}
use Rattle.vrp_bound.proofs.CellAnswers.{carried_within, carried_within_same, least_from_customer, least_from_depot, none_carried}
use Rattle.vrp_bound.proofs.WholeUnits.{same_units, units_rise}
use Rattle.vrp_bound.proofs.completions.CompletionCells.least.Goals as goal

-- cells of an equal problem, in an equal unit, read elsewhere
same_cells : (Are : Problem → (ℕ → List ℕ) → List ℕ → List ℕ → Type 0) (p q : Problem) (unit other : ℕ) (near by : ℕ → List ℕ) (among others cells read : List ℕ) → q ≡ p → other ≡ unit → by ≡ near → others ≡ among → read ≡ cells → Are (in_units unit p) near among cells → Are (in_units other q) by others read
same_cells Are p q unit other near by among others cells read same_problem same_unit same_near same_list same are =
    same_units (λ b a u. Are (in_units u b) by a read) q p others among other unit (sym same_problem) (sym same_list) (sym same_unit)
    (subst (λ (n : ℕ → List ℕ). Are (in_units unit p) n among read) (sym same_near) (subst (Are (in_units unit p) near among) (sym same) are))

-- what is free is no more than the whole capacity in units
free_within : (unit counted other capacity had all load free : ℕ) → 1 ≤ unit → counted ≡ unit → other ≡ unit → had ≡ capacity → all ≡ capacity → free ≡ (had - load) / counted → free ≤ all / other
free_within unit counted other capacity had all load free some a b c d is =
    let rise = units_rise unit (capacity - load) capacity some (omega arith) in
    let left : free ≡ (capacity - load) / unit = cc in
    let right : all / other ≡ capacity / unit = cc in
    omega (arith, rise, left, right)

pub returns-then-whole-rest : goal.returns-then-whole-rest
returns-then-whole-rest c =
    none_carried c.args.scope.instance.now (near_with c.args.ng_sets) c.args.scope.customers.now c.args.self.now c.args.at c.args.load c.args.rest c.new-units.result.unit c.whole_units-carried.result (c.whole_units-carried.result * c.args.self.now.unit)
    c.requires.cells c.requires.load c.new-units.ensures.unit (c.whole_units-carried.ensures ∙ ap (λ n. c.args.rest / n) (c.requires.cells.counted ∙ sym c.new-units.ensures.unit)) refl c.if-whole-rest.true

pub index-requires : goal.index-requires
index-requires c =
    let within =
    carried_within c.args.self.now.unit c.args.scope.instance.now c.args.scope.customers.now c.args.rest c.whole_units-carried.result
    c.requires.cells.unit c.requires.rest (omega (arith, (c.whole_units-carried.ensures ∙ ap (λ n. c.args.rest / n) (c.requires.cells.counted ∙ sym c.new-units.ensures.unit)), ap (λ n. c.args.rest / n) c.new-units.ensures.unit)) in
    omega (arith, within, c.requires.cells.tours.all)

pub returns-then-at-eq0 : goal.returns-then-at-eq0
returns-then-at-eq0 c =
    least_from_depot c.args.scope.instance.now (near_with c.args.ng_sets) c.args.scope.customers.now c.args.self.now c.args.at c.args.load c.args.rest c.new-units.result.unit c.whole_units-carried.result (c.whole_units-carried.result * c.args.self.now.unit) c.index.result.now
    c.requires.cells c.if-at-eq0.true (c.requires.depot c.if-at-eq0.true) c.requires.rest c.new-units.ensures.unit (c.whole_units-carried.ensures ∙ ap (λ n. c.args.rest / n) (c.requires.cells.counted ∙ sym c.new-units.ensures.unit)) refl c.if-whole-rest.false c.index.ensures

pub lookup-requires-clause-rest : goal.lookup-requires-clause-rest
lookup-requires-clause-rest c =
    carried_within_same c.args.scope.instance.now c.new-units.result.instance.now c.args.scope.customers.now c.new-units.result.customers.now c.args.self.now.unit c.new-units.result.unit c.args.rest c.whole_units-carried.result
    c.new-units.ensures.instance c.new-units.ensures.customers c.new-units.ensures.unit c.requires.cells.unit c.requires.rest (c.whole_units-carried.ensures ∙ ap (λ n. c.args.rest / n) (c.requires.cells.counted ∙ sym c.new-units.ensures.unit))

pub least_completion-requires-clause-rest : goal.least_completion-requires-clause-rest
least_completion-requires-clause-rest c =
    carried_within_same c.args.scope.instance.now c.new-units.result.instance.now c.args.scope.customers.now c.new-units.result.customers.now c.args.self.now.unit c.new-units.result.unit c.args.rest c.whole_units-carried.result
    c.new-units.ensures.instance c.new-units.ensures.customers c.new-units.ensures.unit c.requires.cells.unit c.requires.rest (c.whole_units-carried.ensures ∙ ap (λ n. c.args.rest / n) (c.requires.cells.counted ∙ sym c.new-units.ensures.unit))

pub returns-in-Some : goal.returns-in-Some
returns-in-Some c =
    least_from_customer c.args.scope.instance.now c.new-units.result.instance.now (near_with c.args.ng_sets) c.args.scope.customers.now c.new-units.result.customers.now c.args.self.now.unit c.new-units.result.unit c.args.at c.args.load c.whole_units-free.result c.args.rest c.whole_units-carried.result (c.whole_units-carried.result * c.args.self.now.unit) c.lookup.result
    c.new-units.ensures.instance c.new-units.ensures.customers c.new-units.ensures.unit c.requires.cells.unit c.requires.load (omega (arith, c.whole_units-free.ensures, ap (λ n. (c.capacity.result - c.args.load) / n) (c.requires.cells.counted ∙ sym c.new-units.ensures.unit), ap (λ n. (n - c.args.load) / c.new-units.result.unit) c.capacity.ensures.value)) (c.whole_units-carried.ensures ∙ ap (λ n. c.args.rest / n) (c.requires.cells.counted ∙ sym c.new-units.ensures.unit)) refl c.if-whole-rest.false
    (subst (λ near. IsLeastCell (HasRelaxed (scaled c.new-units.result) near c.new-units.result.customers.now c.args.at ((scaled c.new-units.result).capacity - c.whole_units-free.result) c.whole_units-carried.result) c.lookup.result) (ap near_with c.new-units.ensures.ng_sets) c.lookup.ensures)

pub returns-in-None : goal.returns-in-None
returns-in-None c =
    least_from_customer c.args.scope.instance.now c.new-units.result.instance.now (near_with c.args.ng_sets) c.args.scope.customers.now c.new-units.result.customers.now c.args.self.now.unit c.new-units.result.unit c.args.at c.args.load c.whole_units-free.result c.args.rest c.whole_units-carried.result (c.whole_units-carried.result * c.args.self.now.unit) c.least_completion.result
    c.new-units.ensures.instance c.new-units.ensures.customers c.new-units.ensures.unit c.requires.cells.unit c.requires.load (omega (arith, c.whole_units-free.ensures, ap (λ n. (c.capacity.result - c.args.load) / n) (c.requires.cells.counted ∙ sym c.new-units.ensures.unit), ap (λ n. (n - c.args.load) / c.new-units.result.unit) c.capacity.ensures.value)) (c.whole_units-carried.ensures ∙ ap (λ n. c.args.rest / n) (c.requires.cells.counted ∙ sym c.new-units.ensures.unit)) refl c.if-whole-rest.false
    (subst (λ near. IsLeastCell (HasRelaxed (scaled c.new-units.result) near c.new-units.result.customers.now c.args.at ((scaled c.new-units.result).capacity - c.whole_units-free.result) c.whole_units-carried.result) c.least_completion.result) (ap near_with c.new-units.ensures.ng_sets) c.least_completion.ensures.least)

pub new-units-requires-clause-places : goal.new-units-requires-clause-places
new-units-requires-clause-places c = c.requires.places

pub new-units-requires-clause-scope : goal.new-units-requires-clause-scope
new-units-requires-clause-scope c = c.requires.cells.scope

pub new-units-requires-clause-unit : goal.new-units-requires-clause-unit
new-units-requires-clause-unit c = c.requires.cells.unit

pub overflow_mul-whole : goal.overflow_mul-whole
overflow_mul-whole c =
    let unit = c.args.self.now.unit in
    let is : c.whole_units-carried.result * unit ≡ c.args.rest / unit * unit = ap (λ n. n * unit) (c.whole_units-carried.ensures ∙ ap (λ n. c.args.rest / n) c.requires.cells.counted) in
    omega (arith, is, div-mul-le_self c.args.rest unit)

pub overflow_sub-capacity : goal.overflow_sub-capacity
overflow_sub-capacity c = omega (arith, c.requires.load, c.capacity.ensures.value)

pub lookup-requires-clause-completion_table : goal.lookup-requires-clause-completion_table
lookup-requires-clause-completion_table c =
    let p = c.args.scope.instance.now in
    let among = c.args.scope.customers.now in
    let completion_table = subst (λ (o : Option (Vec ℕ Global)). IfSome o (λ completion_table. IsCompletionTable (in_units c.args.self.now.unit p) (near_with c.args.ng_sets) among completion_table.items)) c.in-Some.is c.requires.cells.completion_table in
    same_cells IsCompletionTable p c.new-units.result.instance.now c.args.self.now.unit c.new-units.result.unit (near_with c.args.ng_sets) (near_by c.new-units.result) among c.new-units.result.customers.now c.in-Some.cells.items c.deref.result.now
    c.new-units.ensures.instance c.new-units.ensures.unit (ap near_with c.new-units.ensures.ng_sets) c.new-units.ensures.customers c.deref.ensures.value completion_table

pub lookup-requires-clause-tours : goal.lookup-requires-clause-tours
lookup-requires-clause-tours c =
    same_cells AreTours c.args.scope.instance.now c.new-units.result.instance.now c.args.self.now.unit c.new-units.result.unit (near_with c.args.ng_sets) (near_by c.new-units.result) c.args.scope.customers.now c.new-units.result.customers.now c.args.self.now.tours.items c.deref-in-Some.result.now
    c.new-units.ensures.instance c.new-units.ensures.unit (ap near_with c.new-units.ensures.ng_sets) c.new-units.ensures.customers c.deref-in-Some.ensures.value c.requires.cells.tours

pub lookup-requires-clause-room : goal.lookup-requires-clause-room
lookup-requires-clause-room c =
    same_units (λ b a u. c.args.self.now.room ≡ room_of (in_units u b) a) c.new-units.result.instance.now c.args.scope.instance.now c.new-units.result.customers.now c.args.scope.customers.now c.new-units.result.unit c.args.self.now.unit
    (sym c.new-units.ensures.instance) (sym c.new-units.ensures.customers) (sym c.new-units.ensures.unit) c.requires.cells.room

pub lookup-requires-clause-customer : goal.lookup-requires-clause-customer
lookup-requires-clause-customer c = c.if-at-eq0.false

pub lookup-requires-clause-place : goal.lookup-requires-clause-place
lookup-requires-clause-place c = omega (arith, c.requires.place, ap place_count c.new-units.ensures.instance)

pub lookup-requires-clause-free : goal.lookup-requires-clause-free
lookup-requires-clause-free c =
    free_within c.args.self.now.unit c.args.self.now.quotients.unit c.new-units.result.unit c.args.scope.instance.now.capacity c.capacity.result c.new-units.result.instance.now.capacity c.args.load c.whole_units-free.result
    c.requires.cells.unit.some c.requires.cells.counted c.new-units.ensures.unit c.capacity.ensures.value (ap (λ (p : Problem). p.capacity) c.new-units.ensures.instance) c.whole_units-free.ensures

pub least_completion-requires-clause-walks : goal.least_completion-requires-clause-walks
least_completion-requires-clause-walks c =
    same_cells AreWalks c.args.scope.instance.now c.new-units.result.instance.now c.args.self.now.unit c.new-units.result.unit (near_with c.args.ng_sets) (near_by c.new-units.result) c.args.scope.customers.now c.new-units.result.customers.now c.args.self.now.walks.items c.deref-in-None.result.now
    c.new-units.ensures.instance c.new-units.ensures.unit (ap near_with c.new-units.ensures.ng_sets) c.new-units.ensures.customers c.deref-in-None.ensures.value c.requires.cells.walks

pub least_completion-requires-clause-tours : goal.least_completion-requires-clause-tours
least_completion-requires-clause-tours c =
    same_cells AreTours c.args.scope.instance.now c.new-units.result.instance.now c.args.self.now.unit c.new-units.result.unit (near_with c.args.ng_sets) (near_by c.new-units.result) c.args.scope.customers.now c.new-units.result.customers.now c.args.self.now.tours.items c.deref-in-None-2.result.now
    c.new-units.ensures.instance c.new-units.ensures.unit (ap near_with c.new-units.ensures.ng_sets) c.new-units.ensures.customers c.deref-in-None-2.ensures.value c.requires.cells.tours

pub least_completion-requires-clause-customer : goal.least_completion-requires-clause-customer
least_completion-requires-clause-customer c = c.if-at-eq0.false

pub least_completion-requires-clause-place : goal.least_completion-requires-clause-place
least_completion-requires-clause-place c = omega (arith, c.requires.place, ap place_count c.new-units.ensures.instance)

pub least_completion-requires-clause-free : goal.least_completion-requires-clause-free
least_completion-requires-clause-free c =
    free_within c.args.self.now.unit c.args.self.now.quotients.unit c.new-units.result.unit c.args.scope.instance.now.capacity c.capacity.result c.new-units.result.instance.now.capacity c.args.load c.whole_units-free.result
    c.requires.cells.unit.some c.requires.cells.counted c.new-units.ensures.unit c.capacity.ensures.value (ap (λ (p : Problem). p.capacity) c.new-units.ensures.instance) c.whole_units-free.ensures
