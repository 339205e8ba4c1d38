use Rattle.vrp_canonical.specs.Passing.{IsPart}
use Rattle.vrp_canonical.proofs.part.part_of.Given as goal

abbrev pub invariant-loop-index : goal.invariant-loop-index
invariant-loop-index l = IsPart l.pool l.question.rest.unserved l.question.customer l.question.low l.question.high l.index l.part.items
