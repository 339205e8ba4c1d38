use Rattle.std.proofs.Common.{[], ◌∷◌, length, ap, arith}
use Rattle.vrp_routes.proofs.SequenceSteps.{length_grown}
use Rattle.vrp_routes.proofs.sequences.Sequences.len.Goals as goal

pub returns : goal.returns
returns c = omega (arith, length_grown ([] ∷ []) c.self.inside.steps.items, ap length c.self.view_is, c.len.ensures)
