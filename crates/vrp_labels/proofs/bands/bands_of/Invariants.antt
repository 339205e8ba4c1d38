use Rattle.std.proofs.Common.{◌≡◌, ◌<◌, ℕ, get_or, length}
use Rattle.vrp_labels.specs.Bands.{IsBand, no_band}
use Rattle.vrp_labels.proofs.bands.bands_of.Given as goal

abbrev pub invariant-loop-b : goal.invariant-loop-b
invariant-loop-b l = record {
  long : length l.bands.items ≡ l.b;
  each : (k : ℕ) → k < length l.bands.items → IsBand l.shift k l.pile (get_or l.bands.items k no_band);
}
