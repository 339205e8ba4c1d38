use Rattle.std.proofs.Common.{ℕ, [], ◌∷◌, List, length, get_or, ap, sym, ◌∙◌, arith}
use Rattle.vrp_routes.proofs.SequenceSteps.{length_grown, no_stops_first}
use Rattle.vrp_routes.proofs.sequences.Sequences.root.Goals as goal

pub returns-clause-within : goal.returns-clause-within
returns-clause-within c = omega (arith, length_grown ([] ∷ []) c.self.inside.steps.items, ap length c.self.view_is)

pub returns-clause-stops : goal.returns-clause-stops
returns-clause-stops c = ap (λ (xs : List (List ℕ)). get_or xs 0 []) (sym c.self.view_is) ∙ no_stops_first c.self.inside.steps.items
