use Rattle.std.proofs.Common.{◌≡◌, map, take}
use Rattle.std.specs.Prelude.{unsigned_abs}
use Rattle.vrp_text.proofs.nodes.entries_of.Given as goal

abbrev pub invariant-loop-number : goal.invariant-loop-number
invariant-loop-number l = l.entries.items ≡ map unsigned_abs (take l.number-index l.numbers)
