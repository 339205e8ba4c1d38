use Rattle.std.proofs.Common.{[], ◌∷◌, length, ap, arith}
use Rattle.vrp_routes.proofs.SequenceSteps.{length_grown}
use Rattle.vrp_routes.proofs.sequences.Sequences.stops.Goals as goal

pub stops_by-requires-clause-number : goal.stops_by-requires-clause-number
stops_by-requires-clause-number c = omega (arith, c.requires, length_grown ([] ∷ []) c.self.inside.steps.items, ap length c.self.view_is, ap length c.deref.ensures.value)
