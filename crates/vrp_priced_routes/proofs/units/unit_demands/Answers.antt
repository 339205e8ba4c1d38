use Rattle.std.proofs.Common.{◌≤◌, ◌<◌, ℕ, List, get_or, length, ap, sym, subst, arith}
use Rattle.std.proofs.lemmas.List.{length_push}
use Rattle.vrp_bound_prices.specs.Units.{units_of}
use Rattle.vrp_duals.proofs.Pushed.{each_push}
use Rattle.vrp_model.specs.Problem.{demand_of}
use Rattle.vrp_priced_routes.proofs.Carried.{carries}
use Rattle.vrp_priced_routes.proofs.units.unit_demands.Goals as goal

pub loop-index-preserved : goal.loop-index-preserved
loop-index-preserved c =
    let items = c.loop-index.demands.items in
    let x = c.min-demand.result in
    let longer = c.in_ok-push-2.ensures.items in
    let unit = c.unit_of-unit.result in
    let p = c.args.instance.now in
    let here : x ≤ units_of unit (demand_of p (length items)) = subst (λ n. x ≤ units_of unit (demand_of p n)) (sym c.loop-index.invariant.long) (omega (arith, c.min-demand.ensures, c.demand_in_units.ensures)) in
    record {
      long = omega (arith, ap (λ (xs : List ℕ). length xs) longer, length_push items x, c.loop-index.invariant.long);
      each = subst (λ (xs : List ℕ). (k : ℕ) → k < length xs → 1 ≤ k → (1 ≤ get_or xs k 0) × (get_or xs k 0 ≤ units_of unit (demand_of p k))) (sym longer)
          (each_push (λ k n. 1 ≤ k → (1 ≤ n) × (n ≤ units_of unit (demand_of p k))) 0 items x c.loop-index.invariant.each
          (λ _. (omega (arith, c.min-demand.ensures, c.demand_in_units.ensures), here)));
    }

pub returns-clause-routes : goal.returns-clause-routes
returns-clause-routes c =
    carries c.args.instance.now c.unit_of-unit.result c.loop-index.demands.items c.capacity_in_units-capacity.result c.unit_of-unit.ensures
    (omega (arith, c.loop-index.invariant.long, c.loop-index-test.false, c.customers.ensures.value))
    c.capacity_in_units-capacity.ensures c.loop-index.invariant.each
