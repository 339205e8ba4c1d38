use Rattle.std.proofs.Common.{◌≡◌, ◌+◌, vec_len}
use Rattle.std.specs.List.{All}
use Rattle.vrp_heuristic.specs.Inner.Tables.{IsPlace}
use Rattle.vrp_heuristic.proofs.detours.push_first.Given as goal

abbrev pub invariant-loop-rank : goal.invariant-loop-rank
invariant-loop-rank l = record {
  len : vec_len l.list ≡ vec_len l.initial.list + l.rank;
  within : All (IsPlace l.places) l.list.items;
}
