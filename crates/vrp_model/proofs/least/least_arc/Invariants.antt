use Rattle.vrp_model.specs.Inner.LeastArcs.{IsLeastSoFar}
use Rattle.vrp_model.proofs.least.least_arc.Given as goal

abbrev pub invariant-loop-from : goal.invariant-loop-from
invariant-loop-from l = record { so_far : IsLeastSoFar l.weights l.places l.to l.from l.least }
