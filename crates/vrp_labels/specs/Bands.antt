-- The labels of a place by bands of load.
use Rattle.std.specs.Prelude.{◌≡◌, ◌≤◌, ◌<◌, ◌≤ℤ◌, ◌*◌, ◌^◌, ℕ, pos, List, Vec, length, slice_index_or, unsigned_abs}
use Rattle.std.specs.Global.{Global}
use Rattle.std.specs.List.{slice_range}
use Rattle.vrp_labels.specs.Completion.{AreCompletions, CompletionsOf}
use Rattle.vrp_labels.specs.Label.{pile_at, root_label}
use Rattle.vrp_labels.specs.Sorting.{IsRising, band_at}
use Rattle.vrp_labels.specs.declared.bands.Band.{Band}
use Rattle.vrp_labels.specs.declared.bands.TheConstants.{BANDS}
use Rattle.vrp_labels.specs.declared.label.Label.{Label}

abbrev pub no_band : Band
no_band = record { from = 0; to = 0; least = pos 0 }

abbrev pub label_at : List Label → ℕ → Label
label_at pile k = slice_index_or pile k root_label

-- the labels of one band stand together, cheapest first, and no label of this band or a lower one costs less than the least
pub record IsBand (shift b : ℕ) (pile : List Label) (band : Band) : Type 0 where
  pub order : band.from ≤ band.to
  pub within : band.to ≤ length pile
  pub mine : (k : ℕ) → k < length pile → band_at shift (label_at pile k).load ≡ b → (band.from ≤ k) × (k < band.to)
  pub rising : IsRising (slice_range pile band.from band.to)
  pub least : (k : ℕ) → k < length pile → band_at shift (label_at pile k).load ≤ b → band.least ≤ℤ (label_at pile k).cost
  pub small : unsigned_abs band.least ≤ 3 * 2 ^ 60

-- so it is for each band of a place
pub record AreBands (shift : ℕ) (pile : List Label) (bands : List Band) : Type 0 where
  pub long : length bands ≡ BANDS
  pub each : (b : ℕ) → b < BANDS → IsBand shift b pile (slice_index_or bands b no_band)

-- there are bands for each load
pub record IsShift (shift capacity : ℕ) : Type 0 where
  pub fits : shift < 32
  pub covers : band_at shift capacity < BANDS

-- so it is for the bands of each place
pub record AreBanded (shift : ℕ) (kept : List (List Label)) (bands : List (Vec Band Global)) : Type 0 where
  pub long : length bands ≡ length kept
  pub each : (place : ℕ) (d : Vec Band Global) → place < length kept → AreBands shift (pile_at kept place) (slice_index_or bands place d).items

-- completions with the bands of their labels
pub record AreLookedUp (s : CompletionsOf) (shift : ℕ) (bands : List (Vec Band Global)) : Type 0 where
  pub completions : AreCompletions s
  pub fits : IsShift shift s.graph.capacity
  pub banded : AreBanded shift s.kept bands
