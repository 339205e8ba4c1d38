-- The rule of a pile: an invariant between any two steps of any drawers.
use Rattle.std.specs.Prelude.{◌≡◌, ℕ, ◌+◌, ◌<◌, ◌≤◌, ◌++◌, List, [], length}
use Rattle.std.specs.List.{All, Contains, sum_by}
use mathlib.Core.Option.{some}
use lib.ListN.{get_elem?}
use Rattle.vrp_search_tree.specs.Cutting.{NumberedWord}
use Rattle.vrp_sharing.specs.Pile.{DrawerState, IsOldest, PileId}
use Rattle.vrp_sharing.specs.declared.draws.Draws.{Draws}
use Rattle.vrp_sharing.specs.declared.limits.TheConstants.{MAX_DRAWERS}

abbrev pub draws : ℕ → List NumberedWord → List NumberedWord → Draws
draws parts put drawn = record { parts = parts; put = put; drawn = drawn }

-- a drawer with this knowledge, as contracts see it
abbrev pub drawer : PileId → Draws → DrawerState
drawer pile v = record { pile = pile; parts = v.parts; put = v.put; drawn = v.drawn }

-- a drawer with a part knows the pieces put on the pile, and one without has drawn nothing
pub record Knows (pieces : List NumberedWord) (v : Draws) : Type 0 where
  pub put : 0 < v.parts → v.put ≡ pieces
  pub drawn : v.parts ≡ 0 → v.drawn ≡ []

-- all parts are given out; the remaining pieces are the last ones put on the pile; and for every weighting, the drawn and the
-- remaining pieces together weigh as much as those put on the pile
pub record IsPiled (left : List NumberedWord) (views : List Draws) : Type 0 where
  pub put : List NumberedWord
  pub gone : List NumberedWord
  pub stands : put ≡ gone ++ left
  pub parts : sum_by (λ v. v.parts) views ≡ MAX_DRAWERS
  pub weights : (weight : NumberedWord → ℕ) → sum_by (λ v. sum_by weight v.drawn) views + sum_by weight left ≡ sum_by weight put
  pub known : (port : ℕ) (v : Draws) → get_elem? views port ≡ some v → Knows put v

-- a drawer drew these pieces, each the oldest at its time
pub record Draw (v : Draws) (pieces : List NumberedWord) (w : Draws) : Type 0 where
  pub adds : w ≡ draws v.parts v.put (v.drawn ++ pieces)
  pub among : All (Contains v.put) pieces
  pub oldest : All (IsOldest v.parts v.put v.drawn) pieces
  pub few : length w.drawn ≤ length w.put
