-- The nodes of a search, and what is known of them. `fewest`: choices with fewer routes are out of the question.
use Rattle.std.specs.Prelude.{◌≡◌, ◌≤◌, ◌<◌, ◌⊎◌, ◌^◌, ◌++◌, ◌∷◌, [], ℕ, ⊤, List, IfOk, Result, length, slice_index_or}
use Rattle.std.specs.List.{All, Contains, filter}
use Rattle.vrp_model.specs.declared.customers.customer_set.TheConstants.{PLACES}
use Rattle.vrp_partition.specs.Choice.{IsCheapest, IsChoice, NoneBelow, cost_of, is_apart, is_together, set_of}
use Rattle.vrp_partition.specs.Prices.{AllFit}
use Rattle.vrp_partition.specs.declared.bounding.Chosen.{Chosen}
use Rattle.vrp_partition.specs.declared.bounding.OpenRoutes.{OpenRoutes}
use Rattle.vrp_partition.specs.declared.node.Branches.{Branches}
use Rattle.vrp_partition.specs.declared.node.NodeEnd.{NodeEnd}
use Rattle.vrp_partition.specs.declared.node.NodeEnd.TheVariants.{Solved, Branched}
use Rattle.vrp_partition.specs.declared.task.Task.{Task}
use Rattle.vrp_partition.specs.declared.route.Route.{Route}
use Rattle.vrp_partition.specs.declared.search.Found.{Found}
use Rattle.vrp_partition.specs.declared.search.Found.TheVariants.{Cheapest, Unfinished}
use Rattle.std.specs.declared.alloc.AllocError.{AllocError}

-- a node: its routes, what each choice of them costs at least, and what came of looking at it, which is an error before that
pub record NodeState : Type 0 where
  pub pool : List Route
  pub lower_bound : ℕ
  pub end : Result NodeEnd AllocError

-- the routes of both branches are among the node's, and where no choice of either costs less than a number up to the incumbent none
-- of the node's does
pub record AreBranches (pool : List Route) (customers trucks fewest incumbent : ℕ) (branches : Branches) : Type 0 where
  pub joint : All (Contains pool) branches.joint.items
  pub parted : All (Contains pool) branches.parted.items
  pub least : (limit : ℕ) → limit ≤ incumbent → NoneBelow branches.joint.items customers trucks fewest limit
      → NoneBelow branches.parted.items customers trucks fewest limit → NoneBelow pool customers trucks fewest limit
  pub bound : NoneBelow pool customers trucks fewest branches.lower_bound

-- the node's answer, or its branches
abbrev pub IsEnd : List Route → ℕ → ℕ → ℕ → ℕ → NodeEnd → Type 0
IsEnd pool customers trucks fewest incumbent (Solved chosen) = IsCheapest pool customers trucks fewest incumbent chosen.cost chosen.routes.items
IsEnd pool customers trucks fewest incumbent (Branched branches) = AreBranches pool customers trucks fewest incumbent branches

-- the parts of the left routes that a group of customers makes
pub record AreLeftBranches (left : OpenRoutes) (branches : Branches) : Type 0 where
  pub group : ℕ
  pub joint : branches.joint.items ≡ filter (is_together group) left.routes.items
  pub parted : branches.parted.items ≡ filter (is_apart group) left.routes.items
  pub bound : branches.lower_bound ≡ left.lower_bound

-- what has to hold before a node is looked at
pub record CanLook (task : Task) (node : NodeState) : Type 0 where
  pub len : length task.fleet.demands.now ≡ PLACES
  pub fit : AllFit task.fleet.demands.now task.fleet.capacity node.pool
  pub incumbent : task.incumbent ≤ 2 ^ 32

-- the node, with what came of it
pub record IsLookedAt (task : Task) (old new : NodeState) : Type 0 where
  pub pool : new.pool ≡ old.pool
  pub bound : new.lower_bound ≡ old.lower_bound
  pub end : IfOk new.end (IsEnd old.pool task.customers task.fleet.trucks task.least_routes task.incumbent)

-- each node, with what came of it
pub record AreLookedAt (task : Task) (old new : List NodeState) : Type 0 where
  pub many : length new ≡ length old
  pub each : (i : ℕ) (d : NodeState) → i < length old → IsLookedAt task (slice_index_or old i d) (slice_index_or new i d)

-- a node with these routes and this bound
pub record IsUnlooked (pool : List Route) (lower_bound : ℕ) (node : NodeState) : Type 0 where
  pub pool_is : node.pool ≡ pool
  pub bound_is : node.lower_bound ≡ lower_bound

-- a search: its open nodes, and the cost and the routes of the cheapest choice so far
pub record SearchState : Type 0 where
  pub open_nodes : List NodeState
  pub cost : ℕ
  pub routes : List Route

-- What is known of a search of a pool while these nodes are open: its cost is no more than the incumbent's, or below it the cost of
-- its routes, which are a choice; and where no choice of an open node costs less than a number up to that, no choice of the pool does
pub record IsSearched (pool : List Route) (customers trucks fewest incumbent : ℕ) (search : SearchState) (nodes : List NodeState) : Type 0 where
  pub most : search.cost ≤ incumbent
  pub attained : search.cost < incumbent → IsChoice set_of pool customers trucks search.routes × (cost_of search.routes ≡ search.cost)
  pub least : (limit : ℕ) → limit ≤ search.cost → All (λ node. NoneBelow node.pool customers trucks fewest limit) nodes → NoneBelow pool customers trucks fewest limit
  pub parts : All (λ node. All (Contains pool) node.pool) nodes
  pub bounds : All (λ node. NoneBelow node.pool customers trucks fewest node.lower_bound) nodes

-- the same choice
pub record IsBest (old new : SearchState) : Type 0 where
  pub cost : new.cost ≡ old.cost
  pub routes : new.routes ≡ old.routes

-- two nodes more, one for each branch
pub record AreOpened (branches : Branches) (old new : List NodeState) : Type 0 where
  pub first : NodeState
  pub second : NodeState
  pub first_is : IsUnlooked branches.joint.items branches.lower_bound first
  pub second_is : IsUnlooked branches.parted.items branches.lower_bound second
  pub nodes : new ≡ (old ++ second ∷ []) ++ first ∷ []

-- what is known of an unfinished search
pub record IsBestSoFar (pool : List Route) (customers trucks fewest incumbent : ℕ) (best : Chosen) (lower_bound : ℕ) : Type 0 where
  pub most : best.cost ≤ incumbent
  pub attained : best.cost < incumbent → IsChoice set_of pool customers trucks best.routes.items × (cost_of best.routes.items ≡ best.cost)
  pub bound : NoneBelow pool customers trucks fewest lower_bound

-- what a search found
abbrev pub IsFound : List Route → ℕ → ℕ → ℕ → ℕ → Found → Type 0
IsFound pool customers trucks fewest incumbent (Cheapest chosen) = IsCheapest pool customers trucks fewest incumbent chosen.cost chosen.routes.items
IsFound pool customers trucks fewest incumbent (Unfinished best lower_bound) = IsBestSoFar pool customers trucks fewest incumbent best lower_bound

-- what holds where a search is unfinished
abbrev pub IfUnfinished : Type 0 → Found → Type 0
IfUnfinished fact (Cheapest chosen) = ⊤
IfUnfinished fact (Unfinished best lower_bound) = fact

-- the choice is taken where it costs less
pub record TakesChoice (old : SearchState) (chosen : Chosen) (new : SearchState) : Type 0 where
  pub nodes : new.open_nodes ≡ old.open_nodes
  pub falls : new.cost ≤ old.cost
  pub under : new.cost ≤ chosen.cost
  pub cases : ((chosen.cost < old.cost) × (new.cost ≡ chosen.cost) × (new.routes ≡ chosen.routes.items))
      ⊎ ((old.cost ≤ chosen.cost) × (new.cost ≡ old.cost) × (new.routes ≡ old.routes))

-- a node that was open is taken, if there is one: what was known of the open nodes and the taken ones is known still
pub record IsTaken (old : SearchState) (taken : List NodeState) (new : SearchState) (nodes : List NodeState) : Type 0 where
  pub cost : new.cost ≡ old.cost
  pub searched : (pool : List Route) (customers trucks fewest incumbent : ℕ)
      → IsSearched pool customers trucks fewest incumbent old (old.open_nodes ++ taken)
      → IsSearched pool customers trucks fewest incumbent new (new.open_nodes ++ nodes)
