use Rattle.std.proofs.Common.{rules, to_z, of_z, w64, ◌≡◌, ◌∙◌, ◌≤ℤ◌, ap, sym, subst, unsigned_abs}
use Rattle.std.proofs.lemmas.Int.{ints}
use Rattle.vrp_duals.specs.Folding.{folded_cost}
use Rattle.vrp_labels.specs.Graph.{GraphOf}
use Rattle.vrp_labels.specs.Route.{IsAliveRoute}
use Rattle.vrp_priced_routes.specs.Priced.{PricedOf}
use Rattle.vrp_priced_routes.proofs.PassSteps.{depth_below}
use Rattle.vrp_priced_routes.proofs.priced_graph.PricedGraph.close_at.Goals as goal

pub returns-clause-depth : goal.returns-clause-depth
returns-clause-depth g c = λ route alive.
    let here = c.args.self.now.graph in
    let graph : c.in_ok-completions.completions.graph ≡ here = c.in_ok-completions.ensures.graph ∙ ap (λ (s : PricedOf). s.graph) c.self.view_is in
    let least : to_z w64 (of_z w64 c.least_route.result) ≡ c.least_route.result = search (rules, ints) in
    depth_below c.least_route.result (folded_cost here.folded route) c.unsigned_abs-depth.result c.least_route.ensures.most (c.unsigned_abs-depth.ensures.value ∙ ap unsigned_abs least)
    (subst (λ (h : GraphOf). c.least_route.result ≤ℤ folded_cost h.folded route) graph (c.least_route.ensures.least route (subst (λ (h : GraphOf). IsAliveRoute h route) (sym graph) alive)))
