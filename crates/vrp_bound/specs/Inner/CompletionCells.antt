-- The cells of the tables: a least cost, or a mark above every cost.
use Rattle.std.specs.Prelude.{◌≡◌, ℕ, ◌+◌, ◌-◌, ◌*◌, ◌/◌, ◌%◌, ◌≤◌, ◌<◌, List, length, slice_index}
use Rattle.std.specs.List.{All, sum_by}
use Rattle.vrp_model.specs.Problem.{Problem, place_count}
use Rattle.vrp_model.specs.Route.{load_of}
use Rattle.vrp_bound.specs.Tables.{room_of}
use Rattle.vrp_bound.specs.Walk.{relaxed_cost, walk_cost}
use Rattle.vrp_bound.specs.NgWalks.{IsNgRelaxed, IsNgTour, IsNgWalk}

-- the mark for "no cost"
abbrev pub mark : ℕ
mark = 4000000000000000000

-- the least of some costs, or the mark or more if there is none
pub record IsLeastCell (IsCost : ℕ → Type 0) (cell : ℕ) : Type 0 where
  pub met : cell < mark → IsCost cell
  pub least : (cost : ℕ) → IsCost cost → cell ≤ cost

-- a walk from the place with this load has this cost
pub record HasWalk (p : Problem) (near : ℕ → List ℕ) (among : List ℕ) (at load cost : ℕ) : Type 0 where
  pub stops : List ℕ
  pub walks : IsNgWalk p near among at stops
  pub loaded : load_of p stops ≡ load
  pub costs : walk_cost p at stops ≡ cost

-- tours that carry the rest have this cost
pub record HasTours (p : Problem) (near : ℕ → List ℕ) (among : List ℕ) (rest cost : ℕ) : Type 0 where
  pub tours : List (List ℕ)
  pub each : All (IsNgTour p near among) tours
  pub whole : sum_by (load_of p) tours ≡ rest
  pub costs : sum_by (walk_cost p 0) tours ≡ cost

-- a walk home and tours that carry the rest have this cost
pub record HasRelaxed (p : Problem) (near : ℕ → List ℕ) (among : List ℕ) (at load rest cost : ℕ) : Type 0 where
  pub home : List ℕ
  pub tours : List (List ℕ)
  pub relaxed : IsNgRelaxed p near among at load rest home tours
  pub costs : relaxed_cost p at home tours ≡ cost

-- the cells of the walks so far: by load, then by place
pub record AreWalksSoFar (p : Problem) (near : ℕ → List ℕ) (among cells : List ℕ) : Type 0 where
  pub each : (k : ℕ) → k < length cells → IsLeastCell (HasWalk p near among (k % place_count p) (k / place_count p)) (slice_index cells k)
  pub within : (k : ℕ) → slice_index cells k ≤ mark

pub record AreWalks (p : Problem) (near : ℕ → List ℕ) (among cells : List ℕ) : Type 0 where
  pub so_far : AreWalksSoFar p near among cells
  pub all : length cells ≡ (room_of p among + 1) * place_count p

-- the cells of the tours so far, by rest
pub record AreToursSoFar (p : Problem) (near : ℕ → List ℕ) (among cells : List ℕ) : Type 0 where
  pub each : (rest : ℕ) → rest < length cells → IsLeastCell (HasTours p near among rest) (slice_index cells rest)
  pub within : (k : ℕ) → slice_index cells k ≤ mark

pub record AreTours (p : Problem) (near : ℕ → List ℕ) (among cells : List ℕ) : Type 0 where
  pub so_far : AreToursSoFar p near among cells
  pub all : length cells ≡ load_of p among + 1

-- the mark for "no cost" in a small cell
abbrev pub small_mark : ℕ
small_mark = 4000000000

-- the least of some costs, below the small mark, or the mark if there is none
pub record IsSmallLeastCell (IsCost : ℕ → Type 0) (cell : ℕ) : Type 0 where
  pub met : cell < small_mark → IsCost cell
  pub least : (cost : ℕ) → IsCost cost → cell ≤ cost
  pub none : small_mark ≤ cell → (cost : ℕ) → IsCost cost → ⊥

-- a walk home within the room and tours, which together carry the rest, have this cost
pub record HasCompletion (p : Problem) (near : ℕ → List ℕ) (among : List ℕ) (at room rest cost : ℕ) : Type 0 where
  pub home : ℕ
  pub carried : home ≤ room
  pub fits : home ≤ rest
  pub walk : ℕ
  pub tours : ℕ
  pub has_walk : HasWalk p near among at home walk
  pub has_tours : HasTours p near among (rest - home) tours
  pub whole : cost ≡ walk + tours

-- the cells of the completion table so far: by place, then by room, then by rest
pub record IsCompletionTableSoFar (p : Problem) (near : ℕ → List ℕ) (among cells : List ℕ) : Type 0 where
  pub each : (k : ℕ) → k < length cells →
      let rests = load_of p among + 1 in
      let rooms = room_of p among + 1 in
      IsSmallLeastCell (HasCompletion p near among (k / rests / rooms) (k / rests % rooms) (k % rests)) (slice_index cells k)

pub record IsCompletionTable (p : Problem) (near : ℕ → List ℕ) (among cells : List ℕ) : Type 0 where
  pub so_far : IsCompletionTableSoFar p near among cells
  pub all : length cells ≡ place_count p * (room_of p among + 1) * (load_of p among + 1)
  pub few : length cells ≤ 64000000
