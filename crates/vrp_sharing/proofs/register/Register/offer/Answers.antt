use Rattle.std.proofs.Common.{rules}
use Rattle.vrp_sharing.proofs.register.Register.offer.Goals as goal

pub returns-clause-offered : goal.returns-clause-offered
returns-clause-offered g c = search rules
