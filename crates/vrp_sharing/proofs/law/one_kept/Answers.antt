use Rattle.vrp_sharing.proofs.KeptPlans.{kept_is_one}
use Rattle.vrp_sharing.proofs.law.one_kept.Goals as goal

pub returns : goal.returns
returns c = kept_is_one
