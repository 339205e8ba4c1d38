-- The cells of the ng-walks.
use Rattle.std.specs.Prelude.{◌≡◌, ◌⊎◌, ℕ, ◌+◌, ◌*◌, ◌/◌, ◌%◌, ◌≤◌, ◌<◌, List, length, slice_index}
use Rattle.vrp_model.specs.Problem.{Problem, place_count}
use Rattle.vrp_model.specs.Route.{load_of}
use Rattle.vrp_bound.specs.Inner.CompletionCells.{IsLeastCell, mark}
use Rattle.vrp_bound.specs.Tables.{room_of}
use Rattle.vrp_model.specs.NgSets.{ng_set_of}
use Rattle.vrp_bound.specs.NgWalks.{IsNgWalk}
use Rattle.vrp_bound.specs.Walk.{walk_cost}

-- a walk from the place with this load and this ng-set there has this cost
pub record HasNgWalk (p : Problem) (near : ℕ → List ℕ) (among : List ℕ) (at load ng_set cost : ℕ) : Type 0 where
  pub stops : List ℕ
  pub walks : IsNgWalk p near among at stops
  pub loaded : load_of p stops ≡ load
  pub remembers : ng_set_of near at stops ≡ ng_set
  pub costs : walk_cost p at stops ≡ cost

-- the cells so far: by load, then by place, then by ng-set
pub record AreNgWalksSoFar (p : Problem) (near : ℕ → List ℕ) (among : List ℕ) (masks : ℕ) (cells : List ℕ) : Type 0 where
  pub each : (k : ℕ) → k < length cells → IsLeastCell (HasNgWalk p near among (k / masks % place_count p) (k / masks / place_count p) (k % masks)) (slice_index cells k)
  pub within : (k : ℕ) → slice_index cells k ≤ mark

pub record AreNgWalks (p : Problem) (near : ℕ → List ℕ) (among : List ℕ) (masks : ℕ) (cells : List ℕ) : Type 0 where
  pub so_far : AreNgWalksSoFar p near among masks cells
  pub all : length cells ≡ (room_of p among + 1) * place_count p * masks

-- the row of a load and a place, by ng-set; `place` counts the rows before it
abbrev pub IsRow : ℕ → ℕ → List ℕ → List ℕ → Type 0
IsRow masks place cells row = (m : ℕ) → m < masks → slice_index row m ≡ slice_index cells (place * masks + m)

-- Each cell of a row, by ng-set, becomes the least of its old value and the costs, plus this weight, of those of the first
-- `count` cells behind whose ng-set leads to this cell's.
pub record ArePulled (weight count : ℕ) (behind before old new : List ℕ) : Type 0 where
  pub len : length new ≡ length old
  pub kept : (m : ℕ) → slice_index new m ≤ slice_index old m
  pub low : (k : ℕ) → k < count → slice_index before k < length old → slice_index new (slice_index before k) ≤ weight + slice_index behind k
  pub met : (m : ℕ) → (slice_index new m ≡ slice_index old m) ⊎ ((k : ℕ) × (k < count) × (slice_index before k ≡ m) × (slice_index new m ≡ weight + slice_index behind k))
