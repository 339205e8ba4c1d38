use Rattle.vrp_command.proofs.Requests.{is_ready_alone}
use Rattle.vrp_command.proofs.solving.solve_alone.Goals as goal

pub returns-clause-ready : goal.returns-clause-ready
returns-clause-ready g c =
    let left = g.R.Read.remaining in
    let problem = c.in_ok-problem.problem in
    is_ready_alone c.args.request (g.G.Gate.may_stop c.args.resources.now.gate.now) problem (left c.args.input.now) (left c.read_problem.new.input) c.in_ok-problem.ensures.read c.solved_from.result c.solved_from.ensures.problem
    c.solved_from.ensures.found c.solved_from.ensures.plan
