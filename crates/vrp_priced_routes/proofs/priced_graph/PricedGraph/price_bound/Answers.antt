use Rattle.std.proofs.Common.{rules, ◌≡◌, ◌∙◌, ℤ, length, ap, sym, subst, arith, to_z, of_z, w64, unsigned_abs, ◌≤◌, ◌-◌}
use Rattle.std.proofs.lemmas.Int.{ints}
use Rattle.std.proofs.lemmas.List.FromFn.{length-range_with_len}
use Rattle.vrp_duals.specs.Duals.{DualsOf, low_of}
use Rattle.vrp_duals.specs.declared.limits.TheConstants.{MAX_LOW}
use Rattle.vrp_model.specs.Problem.{Problem, customers, place_count}
use Rattle.vrp_priced_routes.specs.Priced.{PricedOf}
use Rattle.vrp_priced_routes.proofs.priced_graph.PricedGraph.price_bound.Goals as goal

pub returns : goal.returns
returns c =
    let duals = ap (λ (s : PricedOf). s.duals) c.self.view_is in
    let problem = ap (λ (s : PricedOf). s.problem) c.self.view_is in
    let long : length (customers c.self.inside.instance.now) ≡ place_count c.self.inside.instance.now - 1 = length-range_with_len 1 (place_count c.self.inside.instance.now - 1) in
    let here : c.customers.result ≡ length (customers c.self.inside.instance.now) = omega (arith, long, c.customers.ensures.value) in
    let low : to_z w64 (of_z w64 c.low.result) ≡ c.low.result = search (rules, ints) in
    record {
      scale = c.scale.ensures.value ∙ ap (λ (d : DualsOf). d.scale) duals;
      low = low ∙ (c.low.ensures.value ∙ ap low_of duals);
      customers = here ∙ ap (λ (p : Problem). length (customers p)) problem;
      some_scale = omega (arith, c.scale.ensures.value, c.scale.ensures.moderate.some_scale);
      small_scale = omega (arith, c.scale.ensures.value, c.scale.ensures.moderate.small_scale);
      small_low = subst (λ (z : ℤ). unsigned_abs z ≤ MAX_LOW) (sym low) c.low.ensures.small;
      few = omega (arith, c.customers.ensures.few);
    }
