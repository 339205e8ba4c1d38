-- A thief's answer, as clauses see it.
use Rattle.std.specs.Prelude.{◌≡◌}
use Rattle.vrp_search_tree.specs.Cutting.{NumberedWord}
use Rattle.vrp_sharing.specs.Pile.{DrawerState, IsDrawn}
use Rattle.vrp_sharing.specs.declared.thief.Drawn.{Drawn}
use Rattle.vrp_sharing.specs.declared.thief.Drawn.TheVariants.{Piece, Empty, Busy}

-- `none` if no piece was drawn, `some` of the piece otherwise
abbrev pub MatchDrawn : Drawn → Type 0 → (NumberedWord → Type 0) → Type 0
MatchDrawn (Piece piece) none some = some piece
MatchDrawn Empty none some = none
MatchDrawn Busy none some = none

-- a thief whose answer is a piece drew it; otherwise it is unchanged
abbrev pub StealsOrStays : DrawerState → Drawn → DrawerState → Type 0
StealsOrStays old answer new = MatchDrawn answer (new ≡ old) (λ piece. IsDrawn old piece new)
