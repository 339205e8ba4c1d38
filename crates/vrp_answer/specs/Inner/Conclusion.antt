-- Facts known while the outcomes of all workers become a plan and a verdict.
use Rattle.std.specs.Prelude.{◌≡◌, ◌≢◌, ◌⊎◌, ℕ, ◌≤◌, ◌<◌, Bool, min, Option, None, Some, Result, List, [], length, map, slice_index_or}
use Rattle.std.specs.List.{All, AllPairs, Contains}
use Rattle.std.specs.Option.{ForSome}
use Rattle.vrp_model.specs.Cheapest.{cost_of}
use Rattle.vrp_model.specs.Order.{IsBefore}
use Rattle.vrp_model.specs.Route.{IsPlanOf, PricedPlan}
use Rattle.vrp_model.specs.Word.{NoneCheaperUnder}
use Rattle.vrp_search_tree.specs.Cutting.{NumberedWord}
use Rattle.vrp_search_tree.specs.Search.{NoneBeforeUnder}
use Rattle.vrp_answer.specs.Answer.{IsLeft, IsOwnLow, piece_of}
use Rattle.vrp_answer.specs.Gatherer.{IsAdded, IsFirstMissing, AnswersAdd, IsMissing}
use Rattle.vrp_answer.specs.Outcomes.{AreOutcomes, IsOpenPiece, Search}
use Rattle.vrp_answer.specs.declared.answers.Answer.{Answer}
use Rattle.vrp_answer.specs.declared.answers.Answer.TheVariants.{Proven, Open, NoPlan}
use Rattle.vrp_answer.specs.declared.gatherer.GatherError.{GatherError}
use Rattle.vrp_answer.specs.declared.open_pieces.OpenPieces.{OpenPieces}
use Rattle.vrp_answer.specs.declared.outcome.OpenPiece.{OpenPiece}
use Rattle.vrp_answer.specs.declared.outcome.PieceOutcome.{PieceOutcome}

-- if there was a plan there still is one, and the old one is not before the new one
abbrev pub IsNoLater : Option PricedPlan → Option PricedPlan → Type 0
IsNoLater new old = (plan : PricedPlan) → old ≡ Some plan → (kept : PricedPlan) × (new ≡ Some kept) × (IsBefore plan kept → ⊥)

abbrev pub piece_numbers : List NumberedWord → List ℕ
piece_numbers pieces = map (λ piece. piece.number) pieces

-- an open piece is one of these pieces, with its low
abbrev pub IsOpenPieceOf : Search → List NumberedWord → OpenPiece → Type 0
IsOpenPieceOf s pieces left = Contains pieces left.piece × IsOpenPiece s left.piece left

abbrev pub numbers_of : List OpenPiece → List ℕ
numbers_of pieces = map (λ left. left.piece.number) pieces

-- no two pieces have the same number, and all numbers are below the number of pieces
pub record AreApart (s : Search) (pieces : List NumberedWord) : Type 0 where
  pub once : (i j : ℕ) (piece : NumberedWord) → i < length pieces → j < length pieces → (slice_index_or pieces i piece).number ≡ (slice_index_or pieces j piece).number → i ≡ j
  pub below : All (λ piece. piece.number < s.pieces) pieces

-- a plan was offered, if there is one: the kept plan is the old one or the offered one, and no later than either
pub record IsOfferedTo (old offered new : Option PricedPlan) : Type 0 where
  pub later : IsNoLater new old
  pub no_later : IsNoLater new offered
  pub one_of : (new ≡ old) ⊎ (new ≡ offered)

-- a number was added, or refused
abbrev pub IsAddedOrNot : List Bool → ℕ → List Bool → Type 0
IsAddedOrNot old number new = (answer : Result (Unit {0}) GatherError) × AnswersAdd old number answer new

-- Some of these pieces are open. The others were added: each word under them costs more than the floor, or is not before the
-- best plan. No other number was added.
pub record AreNoted (s : Search) (floor : ℕ) (best : Option PricedPlan) (pieces : List NumberedWord) (added : List Bool) (left : List OpenPiece) : Type 0 where
  pub plan_of : ForSome best (IsPlanOf s.problem)
  pub count : length added ≡ s.pieces
  pub are_left : All (IsOpenPieceOf s pieces) left
  pub once : AllPairs (λ a b. a ≢ b) (numbers_of left)
  pub only : (number : ℕ) → IsAdded added number → Contains (piece_numbers pieces) number
  pub apart : (number : ℕ) → IsAdded added number → Contains (numbers_of left) number → ⊥
  pub each : All (λ piece. Contains (numbers_of left) piece.number ⊎ (IsAdded added piece.number × NoneBeforeUnder s.problem piece.word floor best)) pieces

-- for any distinct pieces that the outcomes may belong to, all are recorded
abbrev pub NotesAll : Search → List PieceOutcome → Option PricedPlan → List Bool → List OpenPiece → Type 0
NotesAll s outcomes best added left = (floor : ℕ) (pieces : List NumberedWord) → AreOutcomes s floor pieces outcomes → AreApart s pieces → AreNoted s floor best pieces added left

-- ---- settling the open pieces

-- The low used for an open piece: the one by tables over all customers, which is at least the least so far, or the piece's
-- own.
abbrev pub IsLowFor : Search → ℕ → OpenPiece → ℕ → Type 0
IsLowFor s least left low = ((low ≡ left.low) × (least ≤ low)) ⊎ (IsOwnLow s.problem left.piece.word (Some low) × NoneCheaperUnder s.problem left.piece.word low)

-- an open piece is added if each word under it costs more than the best plan; otherwise its low counts
pub record IsSettled (s : Search) (old : OpenPieces) (left : OpenPiece) (new : OpenPieces) : Type 0 where
  pub cost : new.cost ≡ old.cost
  pub low : ℕ
  pub is_low : IsLowFor s old.low left low
  pub step : ((old.cost < low) × IsAddedOrNot old.gatherer left.piece.number new.gatherer × (new.low ≡ old.low)) ⊎ ((low ≤ old.cost) × (new.gatherer ≡ old.gatherer) × (new.low ≡ min old.low low))

-- an open piece is in the cutting, under its number
pub record IsOpenPieceAt (s : Search) (cutting : List (List ℕ)) (left : OpenPiece) : Type 0 where
  pub within : left.piece.number < length cutting
  pub prefix : piece_of cutting left.piece.number ≡ left.piece.word
  pub is_left : IsOpenPiece s left.piece left

-- a prefix is left, no word under it costs less than this, and its low is at least this
pub record IsLeftWith (s : Search) (prefix : List ℕ) (least : ℕ) : Type 0 where
  pub is_left : IsLeft s.problem s.budget s.may_stop prefix
  pub none_cheaper : NoneCheaperUnder s.problem prefix least
  pub than_low : (other : ℕ) → IsOwnLow s.problem prefix (Some other) → least ≤ other

-- All pieces but the rest are settled: no word under an added one costs as little as the best plan or is before it, and the
-- least low is that of the others.
pub record AreOpenPieces (s : Search) (cutting : List (List ℕ)) (best : Option PricedPlan) (open_pieces : OpenPieces) (rest : List OpenPiece) : Type 0 where
  pub priced : open_pieces.cost ≡ cost_of best
  pub count : length open_pieces.gatherer ≡ length cutting
  pub places : All (IsOpenPieceAt s cutting) rest
  pub once : AllPairs (λ a b. a ≢ b) (numbers_of rest)
  pub apart : (number : ℕ) → IsAdded open_pieces.gatherer number → Contains (numbers_of rest) number → ⊥
  pub finished : (number : ℕ) → IsAdded open_pieces.gatherer number → NoneBeforeUnder s.problem (piece_of cutting number) open_pieces.cost best
  pub known : (number : ℕ) → number < length cutting → IsMissing open_pieces.gatherer number → IsLeftWith s (piece_of cutting number) open_pieces.low ⊎ Contains (numbers_of rest) number
  pub met : (open_pieces.low ≡ open_pieces.cost) ⊎ ((number : ℕ) × IsMissing open_pieces.gatherer number × IsOwnLow s.problem (piece_of cutting number) (Some open_pieces.low))
  pub than_cost : open_pieces.low ≤ open_pieces.cost

-- if some pieces are open, all of them are settled at the end
abbrev pub SettlesAll : Search → List Bool → ℕ → List OpenPiece → OpenPieces → Type 0
SettlesAll s added cost left new =
    (cutting : List (List ℕ)) (best : Option PricedPlan) → AreOpenPieces s cutting best (record { gatherer = added; cost = cost; low = cost }) left → AreOpenPieces s cutting best new []

-- the final answer: the plan is the best one, and the answer is open if a number is missing
abbrev pub IsVerdict : Option PricedPlan → OpenPieces → Answer → Type 0
IsVerdict best open_pieces (Proven plan) = IsFirstMissing open_pieces.gatherer None × (best ≡ Some plan)
IsVerdict best open_pieces (Open plan low piece) = IsFirstMissing open_pieces.gatherer (Some piece) × (best ≡ plan) × (low ≡ open_pieces.low)
IsVerdict best open_pieces NoPlan = IsFirstMissing open_pieces.gatherer None × (best ≡ None)
