use Rattle.std.proofs.Common.{ℕ, ◌++◌, [], ◌∷◌, List, length, ap, subst, sym, ◌∙◌, arith}
use Rattle.vrp_routes.specs.Sequences.{GoOn, sequences_by}
use Rattle.vrp_routes.specs.declared.sequences.Step.{Step}
use Rattle.vrp_routes.proofs.SequenceSteps.{go_on_with, grown_with, length_grown, step_stops}
use Rattle.vrp_routes.proofs.sequences.Sequences.push.Goals as goal

pub invariant_of-self-2 : goal.invariant_of-self-2
invariant_of-self-2 c =
    let steps = c.self.inside.steps.items in
    let step : Step = record { parent = c.args.parent; last = c.args.last } in
    subst GoOn (sym c.in_ok-push.ensures.items) (go_on_with steps step c.self.invariant (omega (arith, c.requires, length_grown ([] ∷ []) steps, ap length c.self.view_is)))

pub returns-clause-added : goal.returns-clause-added
returns-clause-added c =
    let step : Step = record { parent = c.args.parent; last = c.args.last } in
    ap sequences_by c.in_ok-push.ensures.items ∙ grown_with ([] ∷ []) c.self.inside.steps.items step ∙ ap (λ (xs : List (List ℕ)). xs ++ step_stops xs step ∷ []) c.self.view_is
