use Rattle.std.proofs.Common.{◌≡◌, ◌/◌, ◌∙◌, List, ℕ, IfSome, ap, sym, subst, arith}
use Rattle.vrp_bound.specs.Inner.Scaled.{near_by, near_with}
use Rattle.vrp_bound.specs.Inner.CompletionCells.{IsCompletionTable, AreTours, AreWalks}
use Rattle.vrp_bound.specs.Tables.{room_of}
use Rattle.vrp_bound.specs.Inner.Units.{IsUnit, in_units}
use Rattle.vrp_bound.proofs.WholeUnits.{demand_units, room_units, same_scope}
use Rattle.vrp_bound.proofs.completions.CompletionCells.fill.Goals as goal

pub walks-requires-clause-room : goal.walks-requires-clause-room
walks-requires-clause-room c =
    room_units c.args.scope.instance.now c.new-units.result.instance.now c.args.scope.customers.now c.new-units.result.customers.now c.unit_of.result c.new-units.result.unit c.whole_units-demand.result c.min-room.result
    c.new-units.ensures.instance c.new-units.ensures.customers c.new-units.ensures.unit c.unit_of.ensures.is_unit (omega (arith, c.whole_units-demand.ensures, ap (λ n. n / c.new-units.result.unit) c.demand_of_all.ensures.value)) (omega (arith, c.min-room.ensures, c.whole_units.ensures, ap (λ n. n / c.new-units.result.unit) c.capacity.ensures.value))

pub tours-requires-clause-room : goal.tours-requires-clause-room
tours-requires-clause-room c =
    room_units c.args.scope.instance.now c.new-units.result.instance.now c.args.scope.customers.now c.new-units.result.customers.now c.unit_of.result c.new-units.result.unit c.whole_units-demand.result c.min-room.result
    c.new-units.ensures.instance c.new-units.ensures.customers c.new-units.ensures.unit c.unit_of.ensures.is_unit (omega (arith, c.whole_units-demand.ensures, ap (λ n. n / c.new-units.result.unit) c.demand_of_all.ensures.value)) (omega (arith, c.min-room.ensures, c.whole_units.ensures, ap (λ n. n / c.new-units.result.unit) c.capacity.ensures.value))

pub completion_table-requires-clause-room : goal.completion_table-requires-clause-room
completion_table-requires-clause-room c =
    room_units c.args.scope.instance.now c.new-units.result.instance.now c.args.scope.customers.now c.new-units.result.customers.now c.unit_of.result c.new-units.result.unit c.whole_units-demand.result c.min-room.result
    c.new-units.ensures.instance c.new-units.ensures.customers c.new-units.ensures.unit c.unit_of.ensures.is_unit (omega (arith, c.whole_units-demand.ensures, ap (λ n. n / c.new-units.result.unit) c.demand_of_all.ensures.value)) (omega (arith, c.min-room.ensures, c.whole_units.ensures, ap (λ n. n / c.new-units.result.unit) c.capacity.ensures.value))

pub tours-requires-clause-demand : goal.tours-requires-clause-demand
tours-requires-clause-demand c =
    demand_units c.args.scope.instance.now c.new-units.result.instance.now c.args.scope.customers.now c.new-units.result.customers.now c.unit_of.result c.new-units.result.unit c.whole_units-demand.result
    c.new-units.ensures.instance c.new-units.ensures.customers c.new-units.ensures.unit c.unit_of.ensures.is_unit (omega (arith, c.whole_units-demand.ensures, ap (λ n. n / c.new-units.result.unit) c.demand_of_all.ensures.value))

pub returns : goal.returns
returns c =
    let p = c.args.scope.instance.now in
    let q = c.new-units.result.instance.now in
    let among = c.args.scope.customers.now in
    let others = c.new-units.result.customers.now in
    let unit = c.new-units.result.unit in
    let instance = c.new-units.ensures.instance in
    let customers = c.new-units.ensures.customers in
    let room =
    room_units c.args.scope.instance.now c.new-units.result.instance.now c.args.scope.customers.now c.new-units.result.customers.now c.unit_of.result c.new-units.result.unit c.whole_units-demand.result c.min-room.result
    c.new-units.ensures.instance c.new-units.ensures.customers c.new-units.ensures.unit c.unit_of.ensures.is_unit (omega (arith, c.whole_units-demand.ensures, ap (λ n. n / c.new-units.result.unit) c.demand_of_all.ensures.value)) (omega (arith, c.min-room.ensures, c.whole_units.ensures, ap (λ n. n / c.new-units.result.unit) c.capacity.ensures.value)) in
    let near = near_by c.new-units.result in
    let ng_sets : near ≡ near_with c.args.ng_sets = ap near_with c.new-units.ensures.ng_sets in
    record {
      scope = c.requires.scope;
      unit = subst (IsUnit p among) (sym c.new-units.ensures.unit) c.unit_of.ensures.is_unit;
      counted = c.in_ok-quotients.ensures;
      walks = subst (λ n. AreWalks (in_units unit p) n among c.in_ok-walks.walks.items) ng_sets (same_scope (λ b a. AreWalks (in_units unit b) near a c.in_ok-walks.walks.items) p q among others instance customers c.in_ok-walks.ensures);
      tours = subst (λ n. AreTours (in_units unit p) n among c.in_ok-tours.tours.items) ng_sets (same_scope (λ b a. AreTours (in_units unit b) near a c.in_ok-tours.tours.items) p q among others instance customers c.in_ok-tours.ensures);
      room = same_scope (λ b a. c.min-room.result ≡ room_of (in_units unit b) a) p q among others instance customers room;
      completion_table = subst (λ n. IfSome c.in_ok-completion_table.completion_table (λ completion_table. IsCompletionTable (in_units unit p) n among completion_table.items)) ng_sets (same_scope (λ b a. IfSome c.in_ok-completion_table.completion_table (λ completion_table. IsCompletionTable (in_units unit b) near a completion_table.items)) p q among others instance customers c.in_ok-completion_table.ensures);
    }

pub new-units-requires-clause-places : goal.new-units-requires-clause-places
new-units-requires-clause-places c = c.requires.places

pub new-units-requires-clause-scope : goal.new-units-requires-clause-scope
new-units-requires-clause-scope c = c.requires.scope

pub new-units-requires-clause-unit : goal.new-units-requires-clause-unit
new-units-requires-clause-unit c = c.unit_of.ensures.is_unit

pub walks-requires-clause-demands : goal.walks-requires-clause-demands
walks-requires-clause-demands c = c.deref.ensures.value ∙ c.in_ok-demands.ensures

pub tours-requires-clause-walks : goal.tours-requires-clause-walks
tours-requires-clause-walks c = subst (λ (cells : List ℕ). AreWalks (in_units c.new-units.result.unit c.new-units.result.instance.now) (near_by c.new-units.result) c.new-units.result.customers.now cells) (sym c.deref-2.ensures.value) c.in_ok-walks.ensures

pub completion_table-requires-clause-walks : goal.completion_table-requires-clause-walks
completion_table-requires-clause-walks c = subst (λ (cells : List ℕ). AreWalks (in_units c.new-units.result.unit c.new-units.result.instance.now) (near_by c.new-units.result) c.new-units.result.customers.now cells) (sym c.deref-3.ensures.value) c.in_ok-walks.ensures

pub completion_table-requires-clause-tours : goal.completion_table-requires-clause-tours
completion_table-requires-clause-tours c = subst (λ (cells : List ℕ). AreTours (in_units c.new-units.result.unit c.new-units.result.instance.now) (near_by c.new-units.result) c.new-units.result.customers.now cells) (sym c.deref-4.ensures.value) c.in_ok-tours.ensures

pub up_to-requires-clause-unit : goal.up_to-requires-clause-unit
up_to-requires-clause-unit c = c.new-units.result.some

pub up_to-requires-clause-most : goal.up_to-requires-clause-most
up_to-requires-clause-most c = omega (arith, c.demand_of_all-2.ensures.value, c.requires.scope.light)
