use Rattle.std.proofs.Common.{◌≡◌}
use Rattle.vrp_labels.proofs.LoadBands.{IsScanned}
use Rattle.vrp_labels.proofs.bands.band_of.Given as goal

abbrev pub invariant-loop-label : goal.invariant-loop-label
invariant-loop-label l = record {
  index : l.to ≡ l.label-index;
  scanned : IsScanned l.shift l.b l.pile l.from l.to l.least;
}
