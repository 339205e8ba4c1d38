-- Routes, their beginnings and their endings. A beginning is a list of stops that is read from its last one, and an ending from its first:
-- both are read away from where they meet.
use Rattle.std.specs.Prelude.{◌≤ℤ◌, ◌≢◌, ◌≤◌, ◌<◌, ℕ, ℤ, pos, ◌+ℤ◌, List, [], ◌∷◌}
use Rattle.std.specs.List.{All, AllPairs, sum_by}
use Rattle.vrp_duals.specs.Folding.{FoldedOf, arc_of, due_at, first_of, folded_cost, rows_of}
use Rattle.vrp_labels.specs.Graph.{Follows, GraphOf, demand_at}

-- what the stops demand, in units
abbrev pub load_in_units : GraphOf → List ℕ → ℕ
load_in_units g stops = sum_by (demand_at g) stops

-- what a beginning costs: its arcs, the one from the depot among them, and what is due at each stop
abbrev pub beginning_cost : FoldedOf → List ℕ → ℤ
beginning_cost f [] = pos 0
beginning_cost f (stop ∷ beginning) = beginning_cost f beginning +ℤ arc_of f (first_of beginning) stop +ℤ pos (due_at f stop (rows_of f beginning))

-- the arcs alone, from the depot by a beginning to a place
abbrev pub arcs_to : FoldedOf → List ℕ → ℕ → ℤ
arcs_to f [] to = arc_of f 0 to
arcs_to f (stop ∷ beginning) to = arcs_to f beginning stop +ℤ arc_of f stop to

-- the route of a beginning and an ending
abbrev pub joined : List ℕ → List ℕ → List ℕ
joined [] ending = ending
joined (stop ∷ beginning) ending = joined beginning (stop ∷ ending)

-- the arcs of an ending, to the depot, are alive
abbrev pub IsAliveEnding : GraphOf → List ℕ → Type 0
IsAliveEnding g [] = Unit {0}
IsAliveEnding g (stop ∷ ending) = Follows g stop (first_of ending) × IsAliveEnding g ending

-- the arcs from the depot by a beginning to a place are alive
abbrev pub IsAliveBeginning : GraphOf → List ℕ → ℕ → Type 0
IsAliveBeginning g [] to = Follows g 0 to
IsAliveBeginning g (stop ∷ beginning) to = IsAliveBeginning g beginning stop × Follows g stop to

-- different customers whom one truck can carry, along alive arcs to the depot
pub record IsEnding (g : GraphOf) (ending : List ℕ) : Type 0 where
  pub known : All (λ stop. (1 ≤ stop) × (stop < g.folded.places)) ending
  pub once : AllPairs (λ a b. a ≢ b) ending
  pub light : load_in_units g ending ≤ g.capacity
  pub alive : IsAliveEnding g ending

-- so for a whole route, whose first arc is alive too
pub record IsAliveRoute (g : GraphOf) (route : List ℕ) : Type 0 where
  pub is_ending : IsEnding g route
  pub start : Follows g 0 (first_of route)

-- a route along alive arcs, within the capacity, whose folded cost is at most the gap
pub record IsCheap (g : GraphOf) (gap : ℤ) (route : List ℕ) : Type 0 where
  pub is_route : IsAliveRoute g route
  pub cheap : folded_cost g.folded route ≤ℤ gap
