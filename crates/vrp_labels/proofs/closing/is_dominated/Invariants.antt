use Rattle.std.proofs.Common.{◌≤◌, length}
use Rattle.vrp_labels.proofs.closing.is_dominated.Given as goal

abbrev pub invariant-loop-run : goal.invariant-loop-run
invariant-loop-run l = (l.end ≤ length l.kept) × (l.end ≤ length l.place.digests.items)
