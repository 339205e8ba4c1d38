use Rattle.std.proofs.Common.{◌≡◌, length}
use Rattle.vrp_labels.proofs.runs.Runs.new.Given as goal

abbrev pub invariant-loop : goal.invariant-loop
invariant-loop l = length l.by_place.items ≡ l.counter
