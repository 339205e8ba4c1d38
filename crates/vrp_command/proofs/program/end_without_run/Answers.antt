use Rattle.std.proofs.Common.{rules}
use Rattle.vrp_command.proofs.program.end_without_run.Goals as goal

pub returns-clause-silent : goal.returns-clause-silent
returns-clause-silent c = search rules
