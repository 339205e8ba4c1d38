use Rattle.std.proofs.Common.{◌≡◌, ◌⊎◌, ◌≤ℤ◌}
use Rattle.vrp_labels.specs.Completion.{IsJoinCost}
use Rattle.vrp_labels.proofs.BandLookUp.{LeastDownTo}
use Rattle.vrp_labels.proofs.lookup.least_in_bands.Given as goal

abbrev pub invariant-loop-k : goal.invariant-loop-k
invariant-loop-k l = record {
  attained : (l.best ≡ l.known) ⊎ IsJoinCost l.graph l.forward l.pile l.best;
  below : l.best ≤ℤ l.known;
  least : LeastDownTo l.graph l.forward l.pile l.shift l.top l.k l.best;
}
