-- The board of a register's caller, as contracts see it.
use Rattle.std.specs.Prelude.{◌≡◌, ℕ, ◌≤◌, Bool, Option}
use Rattle.vrp_model.specs.Cheapest.{cost_of}
use Rattle.vrp_model.specs.Route.{PricedPlan}
use Rattle.vrp_sharing.specs.Caller.{CallerState, RegisterState}
use Rattle.vrp_sharing.specs.Costs.{least_of}

pub record SeatBoardState : Type 0 where
  pub register : RegisterState
  pub caller : CallerState
  -- the first plan that was offered to the board, by cost and then by word
  pub best : Option PricedPlan
  -- whether the gate may stop a search
  pub may_stop : Bool

-- the least of the opening cost and the costs that a caller has seen
abbrev pub least_seen : CallerState → ℕ
least_seen caller = least_of caller.known.opening caller.known.seen

-- the floor of a board
abbrev pub floor_of : SeatBoardState → ℕ
floor_of board = least_seen board.caller

-- a later state of the board: it belongs to the same register and gate, and its plan costs no more
pub record IsLater (earlier later : SeatBoardState) : Type 0 where
  pub register : later.register ≡ earlier.register
  pub may_stop : later.may_stop ≡ earlier.may_stop
  pub falls : cost_of later.best ≤ cost_of earlier.best
