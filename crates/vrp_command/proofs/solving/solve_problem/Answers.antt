use Rattle.vrp_command.proofs.Requests.{is_ready_on, start_lawful}
use Rattle.vrp_command.proofs.solving.solve_problem.Goals as goal

pub solved_from-requires-clause-start : goal.solved_from-requires-clause-start
solved_from-requires-clause-start g c = λ κs bounds.
    let begins = c.in-Ok.ensures.begins.begins in
    start_lawful c.args.problem.instance begins.text _ begins.gives

pub returns-in-Ok-solved_from-clause-ready : goal.returns-in-Ok-solved_from-clause-ready
returns-in-Ok-solved_from-clause-ready g c =
    is_ready_on c.args.request (g.G.Gate.may_stop c.args.resources.now.gate.now) c.args.problem (λ file. g.S.Read.remaining file) c.args.start c.in-Ok.solution c.in-Ok-solved_from.ready c.in-Ok-solved_from.ensures.problem
    c.in-Ok-solved_from.ensures.start c.in-Ok.ensures.begins c.in-Ok-solved_from.ensures.found c.in-Ok-solved_from.ensures.plan (c.lacks_points.ensures.no c.if-lacks_points.false)
