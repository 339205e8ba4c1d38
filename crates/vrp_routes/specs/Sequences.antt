-- Sequences, each of which goes on from an earlier one by a last stop.
use Rattle.std.specs.Prelude.{◌≤◌, ℕ, ◌<◌, List, [], ◌∷◌, ◌++◌, length, slice_index_or}
use Rattle.vrp_routes.specs.declared.sequences.Step.{Step}

-- these sequences, and one more for each step
abbrev pub grown_by : List (List ℕ) → List Step → List (List ℕ)
grown_by before [] = before
grown_by before (step ∷ steps) = grown_by (before ++ (slice_index_or before step.parent [] ++ step.last ∷ []) ∷ []) steps

-- the sequence of no stops, and then one for each step
abbrev pub sequences_by : List Step → List (List ℕ)
sequences_by steps = grown_by ([] ∷ []) steps

-- each goes on from an earlier one
abbrev pub GoOn : List Step → Type 0
GoOn steps = (i : ℕ) (d : Step) → i < length steps → (slice_index_or steps i d).parent ≤ i
