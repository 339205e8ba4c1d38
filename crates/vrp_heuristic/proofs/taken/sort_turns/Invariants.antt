use Rattle.std.proofs.Common.{◌≡◌, length}
use Rattle.std.specs.List.{All}
use Rattle.vrp_heuristic.specs.Inner.Turns.{IsTurn}
use Rattle.vrp_model.specs.Problem.{place_count}
use Rattle.vrp_heuristic.proofs.taken.sort_turns.Given as goal

abbrev pub invariant-loop-index : goal.invariant-loop-index
invariant-loop-index l = record {
  len : length l.turns.items ≡ length l.initial.turns.items;
  within : All (IsTurn (place_count l.setting)) l.turns.items;
}
