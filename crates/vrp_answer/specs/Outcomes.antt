-- The workers' results for the pieces, public for the crates of vrp_solver alone.
use Rattle.std.specs.Prelude.{◌≡◌, ◌⊎◌, ℕ, ◌+◌, ◌≤◌, ◌<◌, Bool, IsTrue, Option, Some, List, [], length, map, slice_index_or}
use Rattle.std.specs.Option.{ForSome}
use Rattle.vrp_model.specs.Cheapest.{cost_of}
use Rattle.vrp_model.specs.Problem.{Problem, customers}
use Rattle.vrp_model.specs.Route.{IsPlanOf, PricedPlan}
use Rattle.vrp_model.specs.Word.{IsPrefix, NoneCheaperUnder, TreeHasAtLeast}
use Rattle.vrp_sharing.specs.Pile.{AreShared}
use Rattle.vrp_search_tree.specs.Cutting.{NumberedWord}
use Rattle.vrp_search_tree.specs.Low.{IsLow}
use Rattle.vrp_search_tree.specs.declared.piece_search.depth_first.Ended.{Ended}
use Rattle.vrp_search_tree.specs.Search.{EndsSearch, NoneBeforeUnder}
use Rattle.vrp_answer.specs.declared.outcome.Finished.{Finished}
use Rattle.vrp_answer.specs.declared.outcome.OpenPiece.{OpenPiece}
use Rattle.vrp_answer.specs.declared.outcome.PieceOutcome.{PieceOutcome}
use Rattle.vrp_answer.specs.declared.outcome.PieceOutcome.TheVariants as outcome
use Rattle.vrp_answer.specs.declared.outcome.Searched.{Searched}

-- The problem, the plan offered before the search, if any, the number of pieces, the budget of each, and whether the search
-- may be stopped.
pub record Search : Type 0 where
  pub problem : Problem
  pub start_plan : Option PricedPlan
  pub pieces : ℕ
  pub budget : ℕ
  pub may_stop : Bool

-- each word under the piece costs more than a floor, which is at least this number, or is not before the last offer there
pub record IsFinishedPiece (s : Search) (least : ℕ) (piece : NumberedWord) (done : Finished) : Type 0 where
  pub number : done.number ≡ piece.number
  pub above : least ≤ done.floor
  pub plan_of : ForSome done.last_offer (IsPlanOf s.problem)
  pub none_before : NoneBeforeUnder s.problem piece.word done.floor done.last_offer

-- The piece is the open one. Its tree has more partial plans than were looked at; that count is the budget, or less if the
-- search may be stopped. No word under it costs less than its low, by tables over all customers.
pub record IsOpenPiece (s : Search) (piece : NumberedWord) (left : OpenPiece) : Type 0 where
  pub same : left.piece ≡ piece
  pub prefix : IsPrefix s.problem piece.word
  pub looked : ℕ
  pub within : looked ≤ s.budget
  pub all_spent : (looked ≡ s.budget) ⊎ IsTrue s.may_stop
  pub large : TreeHasAtLeast s.problem piece.word (looked + 1)
  pub is_low : IsLow s.problem (customers s.problem) piece.word (Some left.low)
  pub none_cheaper : NoneCheaperUnder s.problem piece.word left.low

-- a piece's search ends as `EndsSearch` says, with tables over all customers
abbrev pub EndsPiece : Search → List ℕ → ℕ → Ended → Type 0
EndsPiece s word floor ended = EndsSearch s.problem (customers s.problem) word s.budget s.may_stop floor ended

-- the outcome of a searched piece
abbrev pub IsOutcome : Search → ℕ → NumberedWord → PieceOutcome → Type 0
IsOutcome s least piece (outcome.Finished done) = IsFinishedPiece s least piece done
IsOutcome s least piece (outcome.Unfinished left) = IsOpenPiece s piece left

-- each piece has its outcome, at the same position
pub record AreOutcomes (s : Search) (least : ℕ) (pieces : List NumberedWord) (outcomes : List PieceOutcome) : Type 0 where
  pub many : length outcomes ≡ length pieces
  pub each : (place : ℕ) (piece : NumberedWord) (one : PieceOutcome) → place < length pieces → IsOutcome s least (slice_index_or pieces place piece) (slice_index_or outcomes place one)

abbrev pub words_of : List NumberedWord → List (List ℕ)
words_of pieces = map (λ piece. piece.word) pieces

-- All pieces are drawn, and each has its outcome, with a floor of at least `least`, the least of the opening cost and all
-- offers. So a plan that costs no more than the opening plan and the best one costs no more than `least`.
pub record IsSearched (s : Search) (opening : ℕ) (searched : Searched) : Type 0 where
  pub least : ℕ
  pub best_of : ForSome searched.best (IsPlanOf s.problem)
  pub all : AreShared searched.pile.drawn [] searched.pile.put
  pub kept : AreOutcomes s least searched.pile.drawn searched.outcomes.items
  pub reached : (cost : ℕ) → cost ≤ opening → cost ≤ cost_of searched.best → cost ≤ least
