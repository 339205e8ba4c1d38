use Rattle.std.proofs.Common.{◌≡◌, ◌+◌, length}
use Rattle.vrp_model.proofs.near.push_nearest.Given as goal

abbrev pub invariant-loop-index : goal.invariant-loop-index
invariant-loop-index l = length l.near.items ≡ length l.initial.near.items + l.index
