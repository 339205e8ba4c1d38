use Rattle.std.proofs.Common.{◌≡◌, [], length}
use Rattle.vrp_labels.specs.Closing.{IsClosing}
use Rattle.vrp_labels.proofs.closing.close.Given as goal

abbrev pub invariant-loop-load : goal.invariant-loop-load
invariant-loop-load g l = record {
  closing : IsClosing l.graph l.onward.gap l.load [] l.kept l.pending;
  runs : length l.runs.by_place.items ≡ l.graph.folded.places;
}
