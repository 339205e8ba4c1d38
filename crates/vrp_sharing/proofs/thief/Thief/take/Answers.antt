use Rattle.std.proofs.Common.{rules, ◌≡◌, arith}
use Rattle.crossbeam_deque.specs.Handles.{stealer_flavor, view}
use Rattle.vrp_sharing.proofs.PileSteps.{drawn_by, finds_few, takes}
use Rattle.vrp_sharing.proofs.thief.Thief.take.Goals as goal

pub steal_as-requires-clause-takes : goal.steal_as-requires-clause-takes
steal_as-requires-clause-takes c = takes _ _ (let one : (view c.loop.self-inside.pass).parts ≡ 1 = c.loop.invariant.part in omega (arith, one))

pub steal_as-requires-clause-empty : goal.steal_as-requires-clause-empty
steal_as-requires-clause-empty c = λ left views few. finds_few _ _ left views (let fifo : stealer_flavor c.loop.self-inside.deque ≡ 0 = c.loop.invariant.fifo in omega (arith, few, fifo))

pub returns-in-Success : goal.returns-in-Success
returns-in-Success c = search (rules, drawn_by _ _ (view c.self.inside.pass) _ _ _ _ c.self.view_is c.loop.invariant.same c.loop.invariant.known c.in-Success.ensures.rule)
