use Rattle.vrp_command_request.proofs.Requests.{budget_from, format_from}
use Rattle.vrp_command_request.proofs.arguments.parse_request.Goals as goal

pub returns-in-Ok-clause-budget : goal.returns-in-Ok-clause-budget
returns-in-Ok-clause-budget c = budget_from c.args.arguments.now c.in-Ok.request c.in-Ok.ensures.asked

pub returns-in-Ok-clause-format : goal.returns-in-Ok-clause-format
returns-in-Ok-clause-format c = format_from c.args.arguments.now c.in-Ok.request c.in-Ok.ensures.asked
