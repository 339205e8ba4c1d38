use Rattle.std.specs.List.{All}
use Rattle.vrp_heuristic.specs.Inner.Tables.{IsDetour}
use Rattle.vrp_heuristic.proofs.detours.list_detours.Given as goal

abbrev pub invariant-loop-rank : goal.invariant-loop-rank
invariant-loop-rank l = All (IsDetour l.places) l.list.items
