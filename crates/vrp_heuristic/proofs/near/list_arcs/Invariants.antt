use Rattle.std.proofs.Common.{◌≡◌, vec_len}
use Rattle.std.specs.List.{All}
use Rattle.vrp_heuristic.specs.Inner.Tables.{LeadsTo}
use Rattle.vrp_heuristic.proofs.near.list_arcs.Given as goal

abbrev pub invariant-loop-to : goal.invariant-loop-to
invariant-loop-to l = record {
  len : vec_len l.list ≡ l.to;
  within : All (LeadsTo l.places) l.list.items;
}
