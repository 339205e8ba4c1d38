-- Tables of whole rows, and what their cells name.
use Rattle.std.specs.Prelude.{◌≡◌, ℕ, ◌+◌, ◌*◌, ◌<◌, ◌≤◌}
use Rattle.vrp_heuristic.specs.declared.near.NearArc.{NearArc}
use Rattle.vrp_heuristic.specs.declared.split.Predecessor.{Predecessor}
use Rattle.vrp_heuristic.specs.declared.detours.Detour.{Detour}
use Rattle.vrp_heuristic.specs.declared.detours.TheConstants.{MOST_DETOURS}
use Rattle.vrp_model.specs.declared.limits.TheConstants.{MAX_NODES}

-- this many cells are a row of this many for each of this many places
pub record IsSquare (places cells : ℕ) : Type 0 where
  pub few : places ≤ MAX_NODES
  pub square : cells ≡ places * places

-- this many cells are a row of this many for each of this many places, and the same again from a position on, or from the first cell
pub record HasRows (places into cells : ℕ) : Type 0 where
  pub few : places ≤ MAX_NODES
  pub square : cells ≡ into + places * places

-- this many cells are a row of detours for each of this many places
pub record IsTableOfDetours (places cells : ℕ) : Type 0 where
  pub few : places ≤ MAX_NODES
  pub rows : cells ≡ places * MOST_DETOURS

-- this many cells hold a tour of all customers for each of this many plans
pub record IsTableOfTours (customers plans cells : ℕ) : Type 0 where
  pub few : plans ≤ MAX_NODES
  pub rows : plans * customers ≤ cells

-- a number names one of this many places
pub record IsPlace (places place : ℕ) : Type 0 where
  pub within : place < places

-- an arc leads to one of this many places
pub record LeadsTo (places : ℕ) (arc : NearArc) : Type 0 where
  pub within : arc.to < places

-- a detour is on the way to one of this many places
pub record IsDetour (places : ℕ) (detour : Detour) : Type 0 where
  pub within : detour.to < places

-- the last route before a position begins at one of this many positions
pub record IsPredecessor (positions : ℕ) (predecessor : Predecessor) : Type 0 where
  pub within : predecessor.start < positions
