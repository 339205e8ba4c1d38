use Rattle.std.proofs.Common.{◌≡◌, ◌+◌, vec_len}
use Rattle.std.specs.List.{All}
use Rattle.vrp_heuristic.specs.Inner.Tables.{IsPlace}
use Rattle.vrp_heuristic.proofs.near.push_places.Given as goal

abbrev pub invariant-loop-arc : goal.invariant-loop-arc
invariant-loop-arc l = record {
  len : vec_len l.list ≡ vec_len l.initial.list + l.arc-index;
  within : All (IsPlace l.places) l.list.items;
}
