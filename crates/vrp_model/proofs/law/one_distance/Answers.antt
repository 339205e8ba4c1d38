use Rattle.vrp_model.proofs.Distances.{IsDistance-one}
use Rattle.vrp_model.proofs.law.one_distance.Goals as goal

pub returns : goal.returns
returns c = IsDistance-one
