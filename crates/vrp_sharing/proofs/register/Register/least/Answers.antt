use Rattle.std.proofs.Common.{rules}
use Rattle.vrp_sharing.proofs.register.Register.least.Goals as goal

pub returns-clause-seen : goal.returns-clause-seen
returns-clause-seen g c = search rules
