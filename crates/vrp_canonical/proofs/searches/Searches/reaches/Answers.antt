use Rattle.std.proofs.Common.{rules}
use Rattle.vrp_canonical.proofs.searches.Searches.reaches.Goals as goal

pub returns-then-chosen-rest : goal.returns-then-chosen-rest
returns-then-chosen-rest g c = search rules
