use Rattle.std.proofs.Common.{subst}
use Rattle.std.specs.Prelude.{◌↔◌, IsTrue}
use Rattle.vrp_model.specs.Problem.{IsSymmetric, Problem}
use Rattle.vrp_model.proofs.instance.Instance.symmetric.Goals as goal

pub returns : goal.returns
returns c = subst (λ (p : Problem). IsTrue c.self.inside.symmetric ↔ IsSymmetric p) c.self.view_is c.self.invariant.told
