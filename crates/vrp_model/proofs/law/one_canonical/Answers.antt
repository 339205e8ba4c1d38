use Rattle.vrp_model.proofs.CanonicalPlans.{canonical_is_one}
use Rattle.vrp_model.proofs.law.one_canonical.Goals as goal

pub returns : goal.returns
returns c = canonical_is_one
