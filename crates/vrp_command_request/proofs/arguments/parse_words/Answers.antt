use Rattle.vrp_command_request.proofs.Requests.{options_asked}
use Rattle.vrp_command_request.proofs.arguments.parse_words.Goals as goal

pub returns-clause-asked : goal.returns-clause-asked
returns-clause-asked c = options_asked c.args.arguments.now c.in_ok-parse_request.field-0 c.in_ok-parse_request.ensures.asked
