-- How far the closure of labels has come: labels that are kept, by their customers, and labels that wait, by their loads.
use Rattle.std.specs.Prelude.{◌≡◌, ◌⊎◌, ◌≤◌, ◌<◌, ◌+◌, ℕ, ℤ, List, [], ◌++◌, ◌∷◌, length, slice_set}
use Rattle.std.specs.List.{All, Contains}
use Rattle.vrp_labels.specs.Graph.{GraphOf}
use Rattle.vrp_labels.specs.Label.{Dominates, IsLabelOf, IsBeyondGap, MayExtend, extended_by, pile_at, root_label}
use Rattle.vrp_labels.specs.declared.label.Label.{Label}

-- a label in hand, or one that waits with at least this load
abbrev pub Waits : List (List Label) → ℕ → List Label → Label → Type 0
Waits pending from hand label = Contains hand label ⊎ ((load : ℕ) × (from ≤ load) × Contains (pile_at pending load) label)

-- a kept label dominates it
abbrev pub IsDominated : GraphOf → List (List Label) → Label → Type 0
IsDominated g kept label = (other : Label) × Contains (pile_at kept label.at) other × Dominates g other label

-- or it stands for no ending of a cheap route
abbrev pub IsDone : GraphOf → ℤ → List (List Label) → Label → Type 0
IsDone g gap kept label = IsDominated g kept label ⊎ IsBeyondGap g gap label

-- each extension of the label waits or is done
abbrev pub IsExtended : GraphOf → ℤ → List (List Label) → List (List Label) → ℕ → List Label → Label → Type 0
IsExtended g gap kept pending from hand label = (j : ℕ) → MayExtend g label j
    → Waits pending from hand (extended_by g label j) ⊎ IsDone g gap kept (extended_by g label j)

-- labels that wait do so by their loads
pub record ArePending (g : GraphOf) (pending : List (List Label)) : Type 0 where
  pub long : length pending ≡ g.capacity + 1
  pub each : (load : ℕ) (label : Label) → Contains (pile_at pending load) label → IsLabelOf g label × (label.load ≡ load)

-- labels are kept by their customers
pub record AreKept (g : GraphOf) (kept : List (List Label)) : Type 0 where
  pub long : length kept ≡ g.folded.places
  pub each : (at : ℕ) (label : Label) → Contains (pile_at kept at) label → IsLabelOf g label × (label.at ≡ at)

-- the root and the kept labels have their extensions, of which those with at least this load wait, and some are in hand
pub record IsClosing (g : GraphOf) (gap : ℤ) (from : ℕ) (hand : List Label) (kept pending : List (List Label)) : Type 0 where
  pub are_kept : AreKept g kept
  pub are_pending : ArePending g pending
  pub in_hand : All (λ label. IsLabelOf g label × (label.load + 1 ≡ from)) hand
  pub roots : IsExtended g gap kept pending from hand root_label
  pub extensions : (at : ℕ) (label : Label) → Contains (pile_at kept at) label → IsExtended g gap kept pending from hand label

-- what was in the piles is still there
pub record HaveGrown (old new : List (List Label)) : Type 0 where
  pub long : length new ≡ length old
  pub still : (at : ℕ) (label : Label) → Contains (pile_at old at) label → Contains (pile_at new at) label

-- the extensions of a label up to a customer were added to the labels that wait, but for those that no cheap route needs
pub record AreOffered (g : GraphOf) (gap : ℤ) (label : Label) (to : ℕ) (old new : List (List Label)) : Type 0 where
  pub grows : HaveGrown old new
  pub pending : ArePending g old → ArePending g new
  pub every : (j : ℕ) → j < to → MayExtend g label j
      → ((load : ℕ) × (label.load < load) × Contains (pile_at new load) (extended_by g label j)) ⊎ IsBeyondGap g gap (extended_by g label j)

-- one label more on a pile
abbrev pub pushed : List (List Label) → ℕ → Label → List (List Label)
pushed piles at label = slice_set piles at (pile_at piles at ++ label ∷ [])
