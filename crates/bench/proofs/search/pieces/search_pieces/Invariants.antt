use Rattle.std.specs.Option.{ForSome}
use Rattle.vrp_model.specs.Route.{IsPlanOf}
use Rattle.bench.proofs.search.pieces.search_pieces.Given as goal

abbrev pub invariant-loop-piece : goal.invariant-loop-piece
invariant-loop-piece l = ForSome l.board (IsPlanOf l.instance)
