use Rattle.std.proofs.Common.{rules, ◌≡◌, ◌∙◌, ℤ, sym, subst, length, to_z, of_z, w64}
use Rattle.std.proofs.lemmas.Int.{ints}
use Rattle.vrp_labels.specs.Closing.{AreKept}
use Rattle.vrp_labels.specs.Graph.{GraphOf}
use Rattle.vrp_labels.specs.Label.{IsClosed}
use Rattle.vrp_labels.specs.Plans.{IsGapFor}
use Rattle.vrp_model.specs.Problem.{customers}
use Rattle.vrp_priced_routes.specs.Closed.{IfRoundClosed}
use Rattle.vrp_priced_routes.specs.Priced.{HasDepth, IsPriced}
use Rattle.vrp_priced_routes.specs.declared.closed.Round.{Round}
use Rattle.vrp_priced_routes.proofs.PassSteps.{bounded_by}
use Rattle.vrp_priced_routes.proofs.pass.run_pass.Goals as goal

pub passed-requires-clause-labels : goal.passed-requires-clause-labels
passed-requires-clause-labels g c =
    let s = c.in-Ok.priced in
    let closed = c.in-Closed.closed in
    let priced : IsPriced s = subst IsPriced c.priced.view_is c.priced.invariant in
    let gap : to_z w64 (of_z w64 closed.gap) ≡ closed.gap = search (rules, ints) in
    let graph : closed.completions.graph ≡ s.graph = subst (λ (r : Round). IfRoundClosed r (λ closed. closed.completions.graph ≡ s.graph)) c.in-Closed.is c.in_ok-closed.ensures.graph in
    let same : closed.completions.gap ≡ closed.gap = subst (λ (r : Round). IfRoundClosed r (λ closed. closed.completions.gap ≡ closed.gap)) c.in-Closed.is c.in_ok-closed.ensures.gap in
    let deep : HasDepth s.graph closed.depth = subst (λ (r : Round). IfRoundClosed r (λ closed. HasDepth s.graph closed.depth)) c.in-Closed.is c.in_ok-closed.ensures.depth in
    let wide : IsGapFor s.duals s.graph (length (customers s.problem)) s.range.limit closed.gap =
    subst (λ (r : Round). IfRoundClosed r (λ closed. IsGapFor s.duals s.graph (length (customers s.problem)) s.range.limit closed.gap)) c.in-Closed.is c.in_ok-closed.ensures.wide in
    record {
      priced = priced;
      gap = subst (IsGapFor s.duals s.graph (length (customers s.problem)) s.range.limit) (sym gap) wide;
      kept = subst (λ (h : GraphOf). AreKept h c.into_labels-labels.result) graph c.into_labels-labels.ensures.are_kept;
      closed = subst (λ (z : ℤ). IsClosed s.graph z c.into_labels-labels.result) (same ∙ sym gap) (subst (λ (h : GraphOf). IsClosed h closed.completions.gap c.into_labels-labels.result) graph c.into_labels-labels.ensures.closed);
      bound = bounded_by s c.price_bound.result closed.depth c.least_cost-bound.result priced c.price_bound.ensures deep c.least_cost-bound.ensures.bound;
    }
