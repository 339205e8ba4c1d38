use Rattle.std.proofs.Common.{◌+◌, ◌-◌, ◌*◌, ◌+ℤ◌, ◌≤ℤ◌, pos, length, subst}
use Rattle.vrp_duals.specs.Duals.{low_of}
use Rattle.vrp_model.specs.Problem.{customers}
use Rattle.vrp_priced_routes.specs.Closed.{IfRoundClosed}
use Rattle.vrp_priced_routes.specs.Priced.{HasDepth}
use Rattle.vrp_priced_routes.specs.declared.closed.Round.{Round}
use Rattle.vrp_priced_routes.proofs.PassSteps.{gap_for}
use Rattle.vrp_priced_routes.proofs.priced_graph.PricedGraph.close.Goals as goal

pub returns-then-first-guess-clause-wide : goal.returns-then-first-guess-clause-wide
returns-then-first-guess-clause-wide g c =
    let s = c.args.self.now in
    gap_for s c.in-Closed.closed.depth c.args.guess c.in-Closed.closed.gap
    (subst (λ (r : Round). IfRoundClosed r (λ closed. HasDepth s.graph closed.depth)) c.in-Closed.is c.in_ok-other.ensures.depth)
    c.if-first-guess.true
    (subst (λ (r : Round). IfRoundClosed r (λ closed. pos (s.duals.scale * s.range.limit + (length (customers s.problem) - 1) * c.args.guess) ≤ℤ (low_of s.duals +ℤ closed.gap))) c.in-Closed.is c.in_ok-other.ensures.covers)
