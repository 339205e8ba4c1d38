-- What labels see of a problem with dual prices: folded prices, demands in units, ng-sets and alive arcs. A set of places is a number with a
-- bit for each.
use Rattle.std.specs.Prelude.{◌≡◌, ◌≤◌, ◌<◌, ℕ, List, length, slice_index}
use Rattle.std.specs.Int.{bit_at}
use Rattle.vrp_model.specs.declared.customers.customer_set.TheConstants.{PLACES}
use Rattle.vrp_duals.specs.Folding.{FoldedOf}
use Rattle.vrp_labels.specs.declared.graph.TheConstants.{MAX_UNITS}

pub record GraphOf : Type 0 where
  pub folded : FoldedOf
  -- the demand of each place, in units, the depot's first
  pub demands : List ℕ
  -- what a truck carries, in units
  pub capacity : ℕ
  -- for each place, its ng-set: the customers that a label at the place can remember
  pub near : List ℕ
  -- for each place, the places to which an arc is alive
  pub followers : List ℕ

abbrev pub graph_of : FoldedOf → List ℕ → ℕ → List ℕ → List ℕ → GraphOf
graph_of folded demands capacity near followers = record { folded = folded; demands = demands; capacity = capacity; near = near; followers = followers }

abbrev pub demand_at : GraphOf → ℕ → ℕ
demand_at g place = slice_index g.demands place

abbrev pub near_at : GraphOf → ℕ → ℕ
near_at g place = slice_index g.near place

-- the arc from one place to another is alive
abbrev pub Follows : GraphOf → ℕ → ℕ → Type 0
Follows g from to = bit_at (slice_index g.followers from) to ≡ 1

-- one entry in each list for each place, and numbers of moderate size, so that sums of them fit
pub record IsGraph (g : GraphOf) : Type 0 where
  pub some_places : 1 ≤ g.folded.places
  pub few_places : g.folded.places ≤ PLACES
  pub demands : length g.demands ≡ g.folded.places
  pub demand : (place : ℕ) → 1 ≤ place → place < g.folded.places → 1 ≤ demand_at g place
  pub capacity : g.capacity ≤ MAX_UNITS
  pub near : length g.near ≡ g.folded.places
  pub followers : length g.followers ≡ g.folded.places
