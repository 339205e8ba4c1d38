use Rattle.std.proofs.Common.{rules, ◌≡◌, ◌∙◌, ℤ, sym, subst, to_z, of_z, w64}
use Rattle.std.proofs.lemmas.Int.{ints}
use Rattle.vrp_labels.specs.Closed.{IfClosed}
use Rattle.vrp_labels.specs.Closing.{AreKept}
use Rattle.vrp_labels.specs.Fixing.{AreAlive, KeepsCheap}
use Rattle.vrp_labels.specs.Graph.{GraphOf}
use Rattle.vrp_labels.specs.Label.{IsClosed}
use Rattle.vrp_labels.specs.Reversal.{IsReversed}
use Rattle.vrp_labels.specs.declared.closing.Closing.{Closing}
use Rattle.vrp_priced_routes.proofs.PassSteps.{keeps_itself}
use Rattle.vrp_priced_routes.proofs.closed.ClosedLabels.useful_arcs.Goals as goal

pub useful_arcs_between-requires : goal.useful_arcs_between-requires
useful_arcs_between-requires g c =
    let reversed = c.in_ok-reversed.reversed in
    let gap : to_z w64 (of_z w64 c.args.self.now.gap) ≡ c.args.self.now.gap = search (rules, ints) in
    record {
      reversed = reversed;
      is = subst (λ (h : GraphOf). IsReversed h reversed) (sym c.requires.graph) c.in_ok-reversed.ensures;
      are_kept = subst (λ (r : Closing). IfClosed r (AreKept reversed)) c.in-Closed.is c.in_ok-beginnings.ensures.kept;
      closed = subst (λ (z : ℤ). IsClosed reversed z c.in-Closed.beginnings) (gap ∙ sym c.requires.gap)
          (subst (λ (r : Closing). IfClosed r (IsClosed reversed (to_z w64 (of_z w64 c.args.self.now.gap)))) c.in-Closed.is c.in_ok-beginnings.ensures.closed);
    }

pub returns-in-Closed-clause-alive : goal.returns-in-Closed-clause-alive
returns-in-Closed-clause-alive g c =
    subst (λ (h : GraphOf). AreAlive h c.in_ok-useful_arcs_between-in-Closed.field-0.items) c.requires.graph c.in_ok-useful_arcs_between-in-Closed.ensures.alive

pub returns-clause-keeps : goal.returns-clause-keeps
returns-clause-keeps g c =
    let here = c.args.graph.now in
    subst (KeepsCheap here c.args.self.now.completions.gap) (sym (c.in_ok-from_slice-in-Met.ensures.items ∙ c.requires.alive)) (keeps_itself here c.args.self.now.completions.gap c.places-places.ensures.known.followers)
