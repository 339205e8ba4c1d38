use Rattle.std.proofs.Common.{◌≡◌, ◌∙◌, ◌<◌, get_or, length, ap, subst, sym, arith}
use Rattle.std.specs.Prelude.{slice_index}
use Rattle.std.proofs.lemmas.List.{get_or_default}
use Rattle.vrp_model.specs.LeastArc.{IsLeastIn}
use Rattle.vrp_model.specs.Problem.{Problem, place_count}
use Rattle.vrp_model.proofs.LeastArcLemmas.{least_in_small}
use Rattle.vrp_model.proofs.instance.Instance.least_in.Goals as goal

pub returns-clause-least : goal.returns-clause-least
returns-clause-least c =
    let inside : Problem = record { nodes = c.self.inside.nodes.items; demands = c.self.inside.demands.items; weights = c.self.inside.weights.items; capacity = c.self.inside.capacity; trucks = c.self.inside.trucks } in
    let least = c.self.inside.least_in.items in
    let place : c.args.customer < place_count inside = subst (λ (p : Problem). c.args.customer < place_count p) (sym c.self.view_is) c.requires.within in
    let within : c.args.customer < length least = omega (arith, place, c.self.invariant.least.one_each) in
    let read : slice_index least c.args.customer ≡ c.from-2.result = get_or_default least c.args.customer 0 c.index.result.now within ∙ ap (λ k. get_or least k c.index.result.now) (sym c.from.ensures) ∙ sym c.index.ensures ∙ sym c.from-2.ensures in
    subst (λ (p : Problem). IsLeastIn p c.args.customer c.from-2.result) c.self.view_is (subst (IsLeastIn inside c.args.customer) read (c.self.invariant.least.each c.args.customer c.requires.some place))

pub returns-clause-small : goal.returns-clause-small
returns-clause-small c =
    let inside : Problem = record { nodes = c.self.inside.nodes.items; demands = c.self.inside.demands.items; weights = c.self.inside.weights.items; capacity = c.self.inside.capacity; trucks = c.self.inside.trucks } in
    let least = c.self.inside.least_in.items in
    let place : c.args.customer < place_count inside = subst (λ (p : Problem). c.args.customer < place_count p) (sym c.self.view_is) c.requires.within in
    let within : c.args.customer < length least = omega (arith, place, c.self.invariant.least.one_each) in
    let read : slice_index least c.args.customer ≡ c.from-2.result = get_or_default least c.args.customer 0 c.index.result.now within ∙ ap (λ k. get_or least k c.index.result.now) (sym c.from.ensures) ∙ sym c.index.ensures ∙ sym c.from-2.ensures in
    least_in_small inside c.args.customer c.from-2.result c.self.invariant.problem (subst (IsLeastIn inside c.args.customer) read (c.self.invariant.least.each c.args.customer c.requires.some place))
