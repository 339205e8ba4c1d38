use Rattle.std.proofs.Common.{refl}
use Rattle.vrp_model.proofs.Recalled.{is_recalled, ng_set_longer}
use Rattle.vrp_model.proofs.ng_law.ng_set_continues.Goals as goal

pub returns : goal.returns
returns c = λ near masks at stop stops. rw (is_recalled near stop stops at, ng_set_longer near at stop stops) refl
