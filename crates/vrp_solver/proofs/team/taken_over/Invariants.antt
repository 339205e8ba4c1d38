use Rattle.vrp_solver.specs.Inner.Workers.{IsPartly}
use Rattle.vrp_solver.proofs.team.taken_over.Given as goal

abbrev pub invariant-loop-helper : goal.invariant-loop-helper
invariant-loop-helper g l = IsPartly l.shared l.fn.lead.board.register l.fn.lead.drawer.put l.callers.items l.helper-iterator.rest.items l.lead
