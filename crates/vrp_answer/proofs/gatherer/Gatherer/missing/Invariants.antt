use Rattle.std.proofs.Common.{ℕ, ◌<◌}
use Rattle.vrp_answer.specs.Gatherer.{IsAdded}
use Rattle.vrp_answer.proofs.gatherer.Gatherer.missing.Given as goal

abbrev pub invariant-loop-number : goal.invariant-loop-number
invariant-loop-number l = (k : ℕ) → k < l.number → IsAdded l.self k
