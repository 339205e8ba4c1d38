-- Facts about a worker, and about all workers together, while they draw pieces and search them.
use Rattle.std.specs.Prelude.{◌≡◌, ℕ, ◌+◌, ◌≤◌, ◌<◌, Bool, false, None, List, [], ◌++◌, length, slice_index_or}
use Rattle.std.specs.List.{All}
use Rattle.std.specs.Option.{ForSome}
use Rattle.vrp_model.specs.Cheapest.{cost_of}
use Rattle.vrp_model.specs.Route.{IsPlanOf}
use Rattle.vrp_model.specs.Word.{IsPrefix}
use Rattle.vrp_sharing.specs.Pile.{AreShared, DrawerState, IsTakenIn, PileId}
use Rattle.vrp_sharing.specs.declared.limits.TheConstants.{MAX_DRAWERS}
use Rattle.vrp_sharing.specs.Caller.{AreCallersOf, CallerState, IsCallerOf, RegisterState}
use Rattle.vrp_search_tree.specs.Cutting.{NumberedWord}
use Rattle.vrp_answer.specs.Outcomes.{AreOutcomes, Search}
use Rattle.vrp_answer.specs.declared.outcome.PieceOutcome.{PieceOutcome}
use Rattle.vrp_answer.specs.declared.outcome.Searched.{Searched}
use Rattle.vrp_solver.specs.SeatBoard.{IsLater, SeatBoardState, floor_of, least_seen}

pub record WorkerState : Type 0 where
  pub drawer : DrawerState
  pub board : SeatBoardState
  pub outcomes : List PieceOutcome
  pub refused : Bool

-- every piece on the pile is a prefix of the problem
abbrev pub ArePrefixes : Search → List NumberedWord → Type 0
ArePrefixes s pieces = All (λ piece. IsPrefix s.problem piece.word) pieces

-- ---- the work of one worker

-- a worker whose plan is feasible, that draws from a pile of prefixes, and whose board may stop only if the search may
pub record CanWork (s : Search) (worker : WorkerState) : Type 0 where
  pub prefixes : ArePrefixes s worker.drawer.put
  pub serves : ForSome worker.board.best (IsPlanOf s.problem)
  pub may_stop : worker.board.may_stop ≡ s.may_stop

-- a later state of the worker: it draws from the same pile, its plan is feasible, and neither the plan nor the floor costs
-- more
pub record IsWorked (s : Search) (old new : WorkerState) : Type 0 where
  pub pile : new.drawer.pile ≡ old.drawer.pile
  pub parts : new.drawer.parts ≡ old.drawer.parts
  pub put : new.drawer.put ≡ old.drawer.put
  pub serves : ForSome new.board.best (IsPlanOf s.problem)
  pub later : IsLater old.board new.board
  pub falls : floor_of new.board ≤ floor_of old.board

-- each piece drawn between the two states has its outcome
pub record HasSearched (s : Search) (old new : WorkerState) : Type 0 where
  pub pieces : List NumberedWord
  pub outcomes : List PieceOutcome
  pub drawn : new.drawer.drawn ≡ old.drawer.drawn ++ pieces
  pub more : new.outcomes ≡ old.outcomes ++ outcomes
  pub kept : AreOutcomes s (floor_of new.board) pieces outcomes

-- both `IsWorked` and `HasSearched`
abbrev pub HasWorked : Search → WorkerState → WorkerState → Type 0
HasWorked s old new = IsWorked s old new × HasSearched s old new

-- a helper after its work: unless memory was refused, each piece that it drew has its outcome
pub record HasHelped (s : Search) (old new : WorkerState) : Type 0 where
  pub worked : IsWorked s old new
  pub searched : new.refused ≡ false → HasSearched s old new

pub record HaveHelped (s : Search) (old new : List WorkerState) : Type 0 where
  pub many : length new ≡ length old
  pub each : (place : ℕ) (helper : WorkerState) → place < length old → HasHelped s (slice_index_or old place helper) (slice_index_or new place helper)

-- ---- all workers

-- a caller of the register that has offered nothing yet
abbrev pub IsNewCaller : RegisterState → CallerState → Type 0
IsNewCaller register caller = IsCallerOf register caller × (caller.known.mine ≡ [])

abbrev pub AreNewCallers : RegisterState → List CallerState → Type 0
AreNewCallers register callers = All (IsNewCaller register) callers

-- the worker of this caller, before it has done anything
abbrev pub new_worker : Search → RegisterState → CallerState → DrawerState → WorkerState
new_worker s register caller drawer = record { drawer = drawer; board = record { register = register; caller = caller; best = None; may_stop = s.may_stop }; outcomes = []; refused = false }

-- a worker that can work, draws from this pile and offers to this register
pub record IsWorker (s : Search) (register : RegisterState) (pile : PileId) (worker : WorkerState) : Type 0 where
  pub can : CanWork s worker
  pub of_pile : worker.drawer.pile ≡ pile
  pub of_register : worker.board.register ≡ register

-- each piece that the worker drew has its outcome
abbrev pub HasOutcomes : Search → WorkerState → Type 0
HasOutcomes s worker = AreOutcomes s (floor_of worker.board) worker.drawer.drawn worker.outcomes

-- The lead draws as the owner of the pile and each helper as a thief. Their drawers are all of the pile's, and their callers
-- all of the register's.
pub record IsTeam (s : Search) (register : RegisterState) (lead : WorkerState) (helpers : List WorkerState) : Type 0 where
  pub lead_is : IsWorker s register lead.drawer.pile lead
  pub lead_has : HasOutcomes s lead
  pub helpers_are : All (IsWorker s register lead.drawer.pile) helpers
  pub helpers_have : All (λ helper. helper.refused ≡ false → HasOutcomes s helper) helpers
  pub parts : lead.drawer.parts + length helpers ≡ MAX_DRAWERS
  pub callers : length helpers + 1 ≡ register.callers

-- each cost that the caller offered is at least this plan's
abbrev pub CostsNoLess : ℕ → CallerState → Type 0
CostsNoLess cost caller = All (λ offer. cost ≤ offer.cost) caller.known.mine

-- The lead took in a helper to whom memory was not refused, and this is the helper's caller: the helper's pieces count as
-- drawn by the lead, its outcomes are the lead's, and its plan is not before the lead's.
pub record IsTakenOver (s : Search) (old helper : WorkerState) (caller : CallerState) (new : WorkerState) : Type 0 where
  pub fine : helper.refused ≡ false
  pub drawer : IsTakenIn old.drawer helper.drawer new.drawer
  pub outcomes : new.outcomes ≡ old.outcomes ++ helper.outcomes
  pub serves : ForSome new.board.best (IsPlanOf s.problem)
  pub later : IsLater old.board new.board
  pub same : new.board.caller ≡ old.board.caller
  pub caller_is : caller ≡ helper.board.caller
  pub one_of : IsCallerOf helper.board.register caller
  pub no_less : CostsNoLess (cost_of new.board.best) caller

-- The lead has taken in the helpers with these callers, and the rest is still to come.
pub record IsPartly (s : Search) (register : RegisterState) (put : List NumberedWord) (callers : List CallerState) (rest : List WorkerState) (lead : WorkerState) : Type 0 where
  pub lead_is : IsWorker s register lead.drawer.pile lead
  pub put_is : lead.drawer.put ≡ put
  pub one_of : All (IsCallerOf register) callers
  pub offered : All (CostsNoLess (cost_of lead.board.best)) callers
  pub kept : (least : ℕ) → least ≤ floor_of lead.board → All (λ caller. least ≤ least_seen caller) callers → AreOutcomes s least lead.drawer.drawn lead.outcomes
  pub rest_are : All (IsWorker s register lead.drawer.pile) rest
  pub rest_have : All (λ helper. helper.refused ≡ false → HasOutcomes s helper) rest
  pub parts : lead.drawer.parts + length rest ≡ MAX_DRAWERS
  pub many : length callers + length rest + 1 ≡ register.callers

-- All pieces are drawn, and each has its outcome. These are all of the register's callers, and none has offered a cost below
-- that of the best plan.
pub record AreBack (s : Search) (register : RegisterState) (callers : List CallerState) (searched : Searched) : Type 0 where
  pub all_callers : AreCallersOf register callers
  pub best_of : ForSome searched.best (IsPlanOf s.problem)
  pub offered : All (CostsNoLess (cost_of searched.best)) callers
  pub all : AreShared searched.pile.drawn [] searched.pile.put
  pub kept : (least : ℕ) → All (λ caller. least ≤ least_seen caller) callers → AreOutcomes s least searched.pile.drawn searched.outcomes.items
