use Rattle.vrp_command_request.proofs.Values.{by_alias}
use Rattle.vrp_command_request.proofs.given.value_of_either.Goals as goal

pub returns-in-None : goal.returns-in-None
returns-in-None c = by_alias c.args.arguments.now c.args.name.now c.args.alias.now c.value_of-in-None.result c.in-None.ensures c.value_of-in-None.ensures
