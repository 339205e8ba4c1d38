-- What a worker knows after it drew, and after it took a helper over.
use Rattle.std.proofs.Common.{◌≡◌, ◌∙◌, ◌≤◌, Bool, [], ◌∷◌, ◌++◌, refl, sym, subst, arith}
use Rattle.std.specs.Option.{ForSome}
use Rattle.std.proofs.lemmas.List.{append-nil, append_assoc}
use Rattle.vrp_model.specs.Route.{IsPlanOf}
use Rattle.vrp_sharing.specs.Pile.{IsDrawn}
use Rattle.vrp_search_tree.specs.Cutting.{NumberedWord}
use Rattle.vrp_solver.specs.SeatBoard.{IsLater, floor_of}
use Rattle.vrp_answer.specs.Outcomes.{IsOutcome, Search}
use Rattle.vrp_solver.specs.Inner.Workers.{ArePrefixes, CanWork, HasOutcomes, HasSearched, IsWorked, WorkerState}
use Rattle.vrp_answer.specs.declared.outcome.PieceOutcome.{PieceOutcome}
use Rattle.vrp_solver.proofs.Floors.{later_itself, later_still}
use Rattle.vrp_solver.proofs.KeptOutcomes.{kept_lower, kept_together, none_kept, one_kept}

-- ---- a worker that does nothing

pub not_worked : (s : Search) (worker : WorkerState) → CanWork s worker → IsWorked s worker worker
not_worked s worker can = record { pile = refl; parts = refl; put = refl; serves = can.serves; later = later_itself worker.board; falls = omega arith }

pub none_searched : (s : Search) (old new : WorkerState) → new.drawer.drawn ≡ old.drawer.drawn → new.outcomes ≡ old.outcomes → HasSearched s old new
none_searched s old new drawn outcomes = record {
  pieces = [];
  outcomes = [];
  drawn = drawn ∙ sym (append-nil old.drawer.drawn);
  more = outcomes ∙ sym (append-nil old.outcomes);
  kept = none_kept s (floor_of new.board);
}

-- ---- a worker that works on

pub can_still : (s : Search) (old new : WorkerState) → CanWork s old → IsWorked s old new → CanWork s new
can_still s old new can worked = record { prefixes = subst (ArePrefixes s) (sym worked.put) can.prefixes; serves = worked.serves; may_stop = worked.later.may_stop ∙ can.may_stop }

pub works_on : (s : Search) (first old new : WorkerState) → IsWorked s first old → IsWorked s old new → IsWorked s first new
works_on s first old new before now = record {
  pile = now.pile ∙ before.pile;
  parts = now.parts ∙ before.parts;
  put = now.put ∙ before.put;
  serves = now.serves;
  later = later_still first.board old.board new.board before.later now.later;
  falls = omega (arith, before.falls, now.falls);
}

pub searches_on : (s : Search) (first old new : WorkerState) → HasSearched s first old → HasSearched s old new → floor_of new.board ≤ floor_of old.board → HasSearched s first new
searches_on s first old new before now falls = record {
  pieces = before.pieces ++ now.pieces;
  outcomes = before.outcomes ++ now.outcomes;
  drawn = rw (now.drawn, before.drawn) (append_assoc first.drawer.drawn before.pieces now.pieces);
  more = rw (now.more, before.more) (append_assoc first.outcomes before.outcomes now.outcomes);
  kept = kept_together s (floor_of new.board) before.pieces now.pieces before.outcomes now.outcomes (kept_lower s (floor_of old.board) (floor_of new.board) before.pieces before.outcomes falls before.kept) now.kept;
}

-- it had an outcome for each piece that it drew, and still has
pub still_has : (s : Search) (old new : WorkerState) → HasOutcomes s old → HasSearched s old new → floor_of new.board ≤ floor_of old.board → HasOutcomes s new
still_has s old new has searched falls = rw (searched.drawn, searched.more)
    (kept_together s (floor_of new.board) old.drawer.drawn searched.pieces old.outcomes searched.outcomes (kept_lower s (floor_of old.board) (floor_of new.board) old.drawer.drawn old.outcomes falls has) searched.kept)

-- the same, whether memory was refused or not
pub works_as_well : (s : Search) (old new : WorkerState) (refused : Bool) → IsWorked s old new → IsWorked s old (record { drawer = new.drawer; board = new.board; outcomes = new.outcomes; refused = refused })
works_as_well s old new refused worked = record { pile = worked.pile; parts = worked.parts; put = worked.put; serves = worked.serves; later = worked.later; falls = worked.falls }

pub searches_as_well : (s : Search) (old new : WorkerState) (refused : Bool) → HasSearched s old new → HasSearched s old (record { drawer = new.drawer; board = new.board; outcomes = new.outcomes; refused = refused })
searches_as_well s old new refused has = record { pieces = has.pieces; outcomes = has.outcomes; drawn = has.drawn; more = has.more; kept = has.kept }

-- ---- one draw

-- it drew a piece, and then its board was asked and offered plans
pub has_drawn : (s : Search) (old new : WorkerState) (piece : NumberedWord) → IsDrawn old.drawer piece new.drawer → ForSome new.board.best (IsPlanOf s.problem) → IsLater old.board new.board → floor_of new.board ≤ floor_of old.board → IsWorked s old new
has_drawn s old new piece drawn serves later falls = record { pile = drawn.pile; parts = drawn.parts; put = drawn.put; serves = serves; later = later; falls = falls }

pub one_searched : (s : Search) (old new : WorkerState) (piece : NumberedWord) (one : PieceOutcome) → IsDrawn old.drawer piece new.drawer → new.outcomes ≡ old.outcomes ++ one ∷ [] → IsOutcome s (floor_of new.board) piece one → HasSearched s old new
one_searched s old new piece one drawn more kept = record {
  pieces = piece ∷ [];
  outcomes = one ∷ [];
  drawn = drawn.drawn;
  more = more;
  kept = one_kept s (floor_of new.board) piece one kept;
}
