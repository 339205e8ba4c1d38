use Rattle.std.proofs.Common.{◌≡◌, ◌<◌, ℕ, Vec, get_or, length}
use Rattle.std.specs.Global.{Global}
use Rattle.vrp_labels.specs.Bands.{AreBands}
use Rattle.vrp_labels.specs.Label.{pile_at}
use Rattle.vrp_labels.specs.declared.bands.Band.{Band}
use Rattle.vrp_labels.proofs.bands.bands_by_place.Given as goal

abbrev pub invariant-loop-place : goal.invariant-loop-place
invariant-loop-place l = record {
  long : length l.bands.items ≡ l.place;
  each : (k : ℕ) (d : Vec Band Global) → k < length l.bands.items → AreBands l.shift (pile_at l.kept k) (get_or l.bands.items k d).items;
}
