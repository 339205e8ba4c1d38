use Rattle.std.proofs.Common.{◌≡◌, ◌++◌, map, take}
use Rattle.vrp_search_tree.proofs.cutting.Cutting.push_copies.Given as goal

abbrev pub invariant-loop-piece : goal.invariant-loop-piece
invariant-loop-piece l = l.self ≡ l.initial.self ++ map (λ piece. piece.word) (take l.piece-index l.pieces)
