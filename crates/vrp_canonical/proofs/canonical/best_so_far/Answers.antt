use Rattle.std.proofs.Common.{rules}
use Rattle.vrp_canonical.proofs.canonical.best_so_far.Goals as goal

pub returns-clause-bound : goal.returns-clause-bound
returns-clause-bound g c = search rules
