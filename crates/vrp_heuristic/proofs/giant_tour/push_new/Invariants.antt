use Rattle.std.proofs.Common.{◌≡◌, vec_len}
use Rattle.std.specs.List.{All}
use Rattle.vrp_heuristic.specs.Inner.Tables.{IsPlace}
use Rattle.vrp_heuristic.proofs.giant_tour.push_new.Given as goal

abbrev pub invariant-loop-symbol : goal.invariant-loop-symbol
invariant-loop-symbol l = record {
  len : vec_len l.has ≡ vec_len l.initial.has;
  within : All (IsPlace (vec_len l.initial.has)) l.tour.items;
}
