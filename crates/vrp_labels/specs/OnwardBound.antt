-- A table of what it costs at least to come from the depot to a place by customers who carry at most so much: without rows, and where a
-- customer may come twice, but not with one other between (q-routes without 2-cycles; Christofides, Mingozzi and Toth 1981). Read from the
-- place, it is what the other part of a route costs.
use Rattle.std.specs.Prelude.{◌≡◌, ◌≢◌, ◌≤◌, ◌<◌, ◌≤ℤ◌, ◌^◌, ℕ, ℤ, pos, ◌+ℤ◌, ◌+◌, ◌-◌, ◌*◌, ◌/◌, ◌%◌, List, length, slice_index_or}
use Rattle.std.specs.List.{All, AllPairs, Contains}
use Rattle.vrp_duals.specs.Folding.{arc_of, first_of}
use Rattle.vrp_duals.specs.declared.limits.TheConstants.{MAX_ARC_PRICE}
use Rattle.vrp_labels.specs.Graph.{Follows, GraphOf, demand_at}
use Rattle.vrp_labels.specs.Route.{IsAliveBeginning, arcs_to, load_in_units}
use Rattle.vrp_labels.specs.declared.onward.BoundEntry.{BoundEntry}

abbrev pub no_entry : BoundEntry
no_entry = record { least = pos 0; other = pos 0; by = 0 }

abbrev pub onward_at : GraphOf → List BoundEntry → ℕ → ℕ → BoundEntry
onward_at g table j room = slice_index_or table (room * g.folded.places + j) no_entry

-- the least is no more than what it costs by this last customer (0 for none), and neither is the other, if the least is not by the same
pub record IsBelow (entry : BoundEntry) (i : ℕ) (z : ℤ) : Type 0 where
  pub least : entry.least ≤ℤ z
  pub other : i ≢ entry.by → entry.other ≤ℤ z

-- one last customer more was looked at
pub record IsImproved (best next : BoundEntry) (i : ℕ) (value : ℤ) : Type 0 where
  pub here : IsBelow next i value
  pub kept : (k : ℕ) (z : ℤ) → IsBelow best k z → IsBelow next k z
  pub low : (m : ℤ) → m ≤ℤ best.least → m ≤ℤ best.other → m ≤ℤ value → (m ≤ℤ next.least) × (m ≤ℤ next.other)
  pub high : (m : ℤ) → best.least ≤ℤ m → best.other ≤ℤ m → (next.least ≤ℤ m) × (next.other ≤ℤ m)

-- nothing is cheaper, by the entries for less room, whose last customers are not the place
pub record IsBoundStep (g : GraphOf) (table : List BoundEntry) (j room : ℕ) (entry : BoundEntry) : Type 0 where
  pub direct : Follows g 0 j → IsBelow entry 0 (arc_of g.folded 0 j)
  pub around : (i : ℕ) → 1 ≤ i → i < g.folded.places → Follows g i j → demand_at g i ≤ room → (onward_at g table i (room - demand_at g i)).by ≡ j
      → IsBelow entry i ((onward_at g table i (room - demand_at g i)).other +ℤ arc_of g.folded i j)
  pub along : (i : ℕ) → 1 ≤ i → i < g.folded.places → Follows g i j → demand_at g i ≤ room → (onward_at g table i (room - demand_at g i)).by ≢ j
      → IsBelow entry i ((onward_at g table i (room - demand_at g i)).least +ℤ arc_of g.folded i j)
  pub low : pos 0 ≤ℤ (entry.least +ℤ pos (MAX_ARC_PRICE * (room + 1)))
  pub low_other : pos 0 ≤ℤ (entry.other +ℤ pos (MAX_ARC_PRICE * (room + 1)))
  pub high : entry.least ≤ℤ pos (2 ^ 62)
  pub high_other : entry.other ≤ℤ pos (2 ^ 62)

-- so it is for the first entries
pub record IsBoundTableTo (g : GraphOf) (table : List BoundEntry) (count : ℕ) : Type 0 where
  pub long : length table ≡ count
  pub each : (k : ℕ) → k < count → IsBoundStep g table (k % g.folded.places) (k / g.folded.places) (slice_index_or table k no_entry)

abbrev pub IsBoundTable : GraphOf → List BoundEntry → Type 0
IsBoundTable g table = IsBoundTableTo g table ((g.capacity + 1) * g.folded.places)

-- the arcs of no beginning by known customers, each once and none the place, who carry at most so much, cost less
abbrev pub BoundsBeginnings : GraphOf → List BoundEntry → Type 0
BoundsBeginnings g table = (beginning : List ℕ) (j room : ℕ) → 1 ≤ j → j < g.folded.places → room ≤ g.capacity
    → All (λ i. (1 ≤ i) × (i < g.folded.places)) beginning → AllPairs (λ a b. a ≢ b) beginning → (Contains beginning j → ⊥)
    → IsAliveBeginning g beginning j → load_in_units g beginning ≤ room
    → IsBelow (onward_at g table j room) (first_of beginning) (arcs_to g.folded beginning j)
