use Rattle.vrp_model.proofs.CanonicalPlans.{canonical_exists}
use Rattle.vrp_model.proofs.law.some_canonical.Goals as goal

pub returns : goal.returns
returns c = canonical_exists
