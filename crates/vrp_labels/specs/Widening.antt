-- Rows that are remembered at more places: up to all, where a row is paid for each pair of its customers; and fewer arcs.
use Rattle.std.specs.Prelude.{◌≡◌, ◌≤◌, ◌<◌, ℕ, ℤ, List, slice_index}
use Rattle.std.specs.Int.{bit_at}
use Rattle.vrp_duals.specs.Folding.{FoldedOf, members_at, memories_at, remembering}
use Rattle.vrp_labels.specs.Closing.{AreKept}
use Rattle.vrp_labels.specs.Fixing.{AreAlive, with_followers}
use Rattle.vrp_labels.specs.Graph.{GraphOf}
use Rattle.vrp_labels.specs.Label.{IsClosed}
use Rattle.vrp_labels.specs.declared.label.Label.{Label}

-- each row of the place is remembered there, and the other memory has what the place's has
pub record IsWiderAt (f : FoldedOf) (place memory : ℕ) : Type 0 where
  pub within : (row : ℕ) → bit_at (members_at f place) row ≤ bit_at (memories_at f place) row
  pub more : (row : ℕ) → bit_at (memories_at f place) row ≤ bit_at memory row

-- so at each place
abbrev pub AreWider : FoldedOf → List ℕ → Type 0
AreWider f memories = (place : ℕ) → place < f.places → IsWiderAt f place (slice_index memories place)

-- the graph with other memories of rows
abbrev pub with_memories : GraphOf → List ℕ → GraphOf
with_memories g memories = record g { folded = remembering g.folded memories }

-- labels that were closed where rows are remembered at fewer places, and where each arc is alive that is alive in the wide graph
pub record IsClosedBelow (wide : GraphOf) (gap : ℤ) (kept : List (List Label)) : Type 0 where
  pub narrow : GraphOf
  pub is : with_followers (with_memories narrow wide.folded.memories) wide.followers ≡ wide
  pub wider : AreWider narrow.folded wide.folded.memories
  pub alive : AreAlive narrow wide.followers
  pub are_kept : AreKept narrow kept
  pub closed : IsClosed narrow gap kept
