-- Which numbers were added to a gatherer.
use Rattle.std.specs.Prelude.{◌≡◌, ℕ, ◌<◌, ◌≤◌, Bool, true, false, List, length, slice_index_or, slice_set, Result, Ok, Err, Option, Some, None}
use Rattle.vrp_answer.specs.declared.gatherer.GatherError.{GatherError}
use Rattle.vrp_answer.specs.declared.gatherer.GatherError.TheVariants.{Double, Stranger}

-- the number is in range and was added
abbrev pub IsAdded : List Bool → ℕ → Type 0
IsAdded added number = slice_index_or added number false ≡ true

-- the number is in range and was not added
abbrev pub IsMissing : List Bool → ℕ → Type 0
IsMissing added number = slice_index_or added number true ≡ false

-- A number is added once. One that was added before, or that is out of range, is refused, and nothing changes.
abbrev pub AnswersAdd : List Bool → ℕ → Result (Unit {0}) GatherError → List Bool → Type 0
AnswersAdd old number (Ok _) new = IsMissing old number × (new ≡ slice_set old number true)
AnswersAdd old number (Err (Double other)) new = (other ≡ number) × IsAdded old number × (new ≡ old)
AnswersAdd old number (Err (Stranger other)) new = (other ≡ number) × (length old ≤ number) × (new ≡ old)

-- the lowest number that was not added
abbrev pub IsFirstMissing : List Bool → Option ℕ → Type 0
IsFirstMissing added None = (number : ℕ) → number < length added → IsAdded added number
IsFirstMissing added (Some first) = IsMissing added first × ((number : ℕ) → number < first → IsAdded added number)
