-- A pile of pieces and its drawers, as contracts see them.
use Rattle.std.specs.Prelude.{◌≡◌, ℕ, ◌+◌, ◌-◌, ◌≤◌, Option, MatchOption, List, [], ◌∷◌, ◌++◌, length, map}
use Rattle.std.specs.List.{All, Contains, flat_map}
use Rattle.std.specs.List.Sorted.{IsPermutation}
use Rattle.std.specs.declared.alloc.Global.{Global}
use Rattle.atomic_blocks.specs.Lent.{RowsId}
use Rattle.vrp_search_tree.specs.Cutting.{AreNumbered, NumberedWord}
use Rattle.vrp_sharing.specs.declared.limits.TheConstants.{MAX_DRAWERS}

-- the identity of a pile
abbrev pub PileId : Type 0
PileId = RowsId × Global

-- a drawer: a pile's owner, or a thief
pub record DrawerState : Type 0 where
  -- the drawer's pile
  pub pile : PileId
  -- how many of the pile's 64 drawers it stands for: a thief for itself, the owner also for those that it has taken in and
  -- those that were never made
  pub parts : ℕ
  -- the pieces put on the pile, in order
  pub put : List NumberedWord
  -- the pieces that it drew, in order, and those of the drawers that it has taken in
  pub drawn : List NumberedWord

-- the drawn and the remaining pieces are those put on the pile, each once
abbrev pub AreShared : List NumberedWord → List NumberedWord → List NumberedWord → Type 0
AreShared drawn left put = IsPermutation put (drawn ++ left)

-- this many of the pieces put on the pile are left after these were drawn
abbrev pub LeavesSoMany : List NumberedWord → List NumberedWord → ℕ → Type 0
LeavesSoMany drawn put count = (left : List NumberedWord) × (length left ≡ count) × AreShared drawn left put

-- the pieces that these drawers drew
abbrev pub drawn_by : List DrawerState → List NumberedWord
drawn_by thieves = flat_map (λ thief. thief.drawn) thieves

-- the drawer drew all pieces that were put on the pile
abbrev pub DrewAll : DrawerState → Type 0
DrewAll drawer = AreShared drawer.drawn [] drawer.put

-- the drawer, standing for one drawer less
abbrev pub one_part_less : DrawerState → DrawerState
one_part_less old = record { pile = old.pile; parts = old.parts - 1; put = old.put; drawn = old.drawn }

-- a thief of the owner's pile that has drawn nothing
abbrev pub IsNewThief : DrawerState → DrawerState → Type 0
IsNewThief owner thief = thief ≡ record { pile = owner.pile; parts = 1; put = owner.put; drawn = [] }

-- the pieces of a cutting are on a pile, in order, and nobody has drawn: its owner, and this many thieves
pub record IsNewPile (words : List (List ℕ)) (count : ℕ) (owner : DrawerState) (thieves : List DrawerState) : Type 0 where
  pub pieces : map (λ piece. piece.word) owner.put ≡ words
  pub numbers : AreNumbered owner.put
  pub nothing : owner.drawn ≡ []
  pub rest : owner.parts + count ≡ MAX_DRAWERS
  pub many : length thieves ≡ count
  pub each : All (IsNewThief owner) thieves

-- The piece was put on the pile, and the pieces ahead of it are, in some order, all that this drawer drew and some others,
-- each once. If the drawer stands for all 64, there are no others, so the piece is the oldest left.
pub record IsOldest (parts : ℕ) (put drawn : List NumberedWord) (piece : NumberedWord) : Type 0 where
  pub ahead : List NumberedWord
  pub behind : List NumberedWord
  pub others : List NumberedWord
  pub stands : put ≡ ahead ++ piece ∷ behind
  pub shared : AreShared drawn others ahead
  pub alone : parts ≡ MAX_DRAWERS → others ≡ []

-- a drawer drew the oldest remaining piece, and has drawn no more pieces than were put on the pile
pub record IsDrawn (old : DrawerState) (piece : NumberedWord) (new : DrawerState) : Type 0 where
  pub pile : new.pile ≡ old.pile
  pub parts : new.parts ≡ old.parts
  pub put : new.put ≡ old.put
  pub drawn : new.drawn ≡ old.drawn ++ piece ∷ []
  pub among : Contains old.put piece
  pub oldest : IsOldest old.parts old.put old.drawn piece
  pub few : length new.drawn ≤ length old.put

-- an owner whose answer is a piece drew it; otherwise it is unchanged
abbrev pub DrawsOrStays : DrawerState → Option NumberedWord → DrawerState → Type 0
DrawsOrStays old answer new = MatchOption answer (new ≡ old) (λ piece. IsDrawn old piece new)

-- an owner took in a thief: the thief's pieces count as drawn by the owner
pub record IsTakenIn (old thief new : DrawerState) : Type 0 where
  pub pile : new.pile ≡ old.pile
  pub parts : new.parts ≡ old.parts + 1
  pub put : new.put ≡ old.put
  pub drawn : new.drawn ≡ old.drawn ++ thief.drawn
