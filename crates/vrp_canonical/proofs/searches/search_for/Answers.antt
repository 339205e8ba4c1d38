use Rattle.std.proofs.Common.{rules}
use Rattle.vrp_canonical.proofs.searches.search_for.Goals as goal

pub returns-clause-found : goal.returns-clause-found
returns-clause-found g c = search rules
