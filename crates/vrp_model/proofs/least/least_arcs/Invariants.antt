use Rattle.std.proofs.Common.{◌≡◌, ℕ, ◌<◌, vec_len}
use Rattle.std.specs.Prelude.{slice_index}
use Rattle.vrp_model.specs.Inner.LeastArcs.{IsLeastArc}
use Rattle.vrp_model.proofs.least.least_arcs.Given as goal

abbrev pub invariant-loop-to : goal.invariant-loop-to
invariant-loop-to l = record {
  all : vec_len l.least ≡ l.to;
  each : (to : ℕ) → to < l.to → IsLeastArc l.weights l.places to (slice_index l.least.items to);
}
