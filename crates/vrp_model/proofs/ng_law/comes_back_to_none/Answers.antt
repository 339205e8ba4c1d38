use Rattle.vrp_model.proofs.RememberedStops.{none_twice}
use Rattle.vrp_model.proofs.ng_law.comes_back_to_none.Goals as goal

pub returns : goal.returns
returns c = none_twice
