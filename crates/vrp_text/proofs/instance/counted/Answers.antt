use Rattle.std.proofs.Common.{rules}
use Rattle.vrp_text.proofs.instance.counted.Goals as goal

pub returns-clause-read : goal.returns-clause-read
returns-clause-read c = search rules

pub returns-clause-counted : goal.returns-clause-counted
returns-clause-counted c = search rules
