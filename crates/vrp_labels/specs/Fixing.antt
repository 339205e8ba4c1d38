-- Arcs that cheap routes use (fixing of arcs by reduced costs; Irnich, Desaulniers, Desrosiers and Hadjar 2010): where a label of beginnings
-- meets one of endings. In graphs where routes cost the same from either end, labels of endings serve as those of beginnings too.
use Rattle.std.specs.Prelude.{◌≡◌, ◌≤◌, ◌<◌, ℕ, ℤ, ◌+ℤ◌, ◌-ℤ◌, List, length, slice_index}
use Rattle.std.specs.Int.{bit_at}
use Rattle.std.specs.List.{Contains}
use Rattle.vrp_duals.specs.Folding.{arc_of}
use Rattle.vrp_labels.specs.Completion.{CompletionsOf, Links}
use Rattle.vrp_labels.specs.Graph.{Follows, GraphOf}
use Rattle.vrp_labels.specs.Label.{pile_at, root_label}
use Rattle.vrp_labels.specs.Route.{IsAliveRoute, IsCheap}
use Rattle.vrp_labels.specs.declared.fixing.Side.{Side}
use Rattle.vrp_labels.specs.declared.fixing.Side.TheVariants.{Beginnings, Endings}
use Rattle.vrp_labels.specs.declared.label.Label.{Label}

-- this triangle with the depot costs the same either way round, and this arc is alive both ways, if one
pub record IsPairEven (g : GraphOf) (i j : ℕ) : Type 0 where
  pub round : arc_of g.folded i j +ℤ arc_of g.folded j 0 +ℤ arc_of g.folded 0 i ≡ arc_of g.folded j i +ℤ arc_of g.folded 0 j +ℤ arc_of g.folded i 0
  pub both : Follows g i j → Follows g j i

-- each triangle with the depot costs the same either way round, and each arc is alive both ways, if one
pub record IsEven (g : GraphOf) : Type 0 where
  pub round : (i j : ℕ) → i < g.folded.places → j < g.folded.places
      → arc_of g.folded i j +ℤ arc_of g.folded j 0 +ℤ arc_of g.folded 0 i ≡ arc_of g.folded j i +ℤ arc_of g.folded 0 j +ℤ arc_of g.folded i 0
  pub both : (i j : ℕ) → i < g.folded.places → j < g.folded.places → Follows g i j → Follows g j i

-- a label of an ending, as that of a beginning with the same customers, read from the other end
abbrev pub as_forward : GraphOf → Label → Label
as_forward g label = record {
  visited = label.visited;
  rows = label.rows;
  cost = label.cost +ℤ arc_of g.folded 0 label.at -ℤ arc_of g.folded label.at 0;
  load = label.load;
  at = label.at;
}

-- the graph where these arcs are alive
abbrev pub with_followers : GraphOf → List ℕ → GraphOf
with_followers g followers = record g { followers = followers }

-- each of these arcs is alive in the graph
abbrev pub AreAlive : GraphOf → List ℕ → Type 0
AreAlive g followers = (from to : ℕ) → from < g.folded.places → to < g.folded.places → bit_at (slice_index followers from) to ≡ 1 → Follows g from to

-- no cheap route uses other arcs
pub record KeepsCheap (g : GraphOf) (gap : ℤ) (followers : List ℕ) : Type 0 where
  pub long : length followers ≡ g.folded.places
  pub cheap : (route : List ℕ) → IsCheap g gap route → IsAliveRoute (with_followers g followers) route

-- a label of one side as that of a beginning
abbrev pub read_from : Side → GraphOf → Label → Label
read_from Endings g label = as_forward g label
read_from Beginnings g label = label

-- the followers of a place, all of them alive: those to which a label of the place links, or the root at the depot
pub record Marks (s : CompletionsOf) (side : Side) (piles : List (List Label)) (i set : ℕ) : Type 0 where
  pub depot : i ≡ 0 → (j : ℕ) → j < s.graph.folded.places → Links s root_label j → bit_at set j ≡ 1
  pub linked : 1 ≤ i → (label : Label) → Contains (pile_at piles i) label → (j : ℕ) → j < s.graph.folded.places
      → Links s (read_from side s.graph label) j → bit_at set j ≡ 1
  pub alive : (j : ℕ) → bit_at set j ≡ 1 → Follows s.graph i j

-- so at each place
pub record AreMarked (s : CompletionsOf) (side : Side) (piles : List (List Label)) (followers : List ℕ) : Type 0 where
  pub long : length followers ≡ s.graph.folded.places
  pub each : (i : ℕ) → i < s.graph.folded.places → Marks s side piles i (slice_index followers i)
