use Rattle.std.proofs.Common.{◌≡◌, ◌*◌, vec_len}
use Rattle.std.specs.List.{All}
use Rattle.vrp_heuristic.specs.Inner.Tables.{IsPlace}
use Rattle.vrp_heuristic.specs.declared.detours.TheConstants.{MOST_DETOURS}
use Rattle.vrp_heuristic.proofs.detours.Detours.new.Given as goal

abbrev pub invariant-loop-place : goal.invariant-loop-place
invariant-loop-place l = record {
  len : vec_len l.order ≡ l.place * MOST_DETOURS;
  within : All (IsPlace l.places) l.order.items;
}
