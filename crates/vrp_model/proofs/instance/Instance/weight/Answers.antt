use Rattle.std.proofs.Common.{◌≡◌, ◌<◌, ◌∙◌, sym, subst, length}
use Rattle.vrp_model.specs.Problem.{Problem, place_count, weight_of}
use Rattle.vrp_model.proofs.WeightPlaces.{row_fits, place_fits, read_small, arc_read, arc_within}
use Rattle.vrp_model.proofs.instance.Instance.weight.Goals as goal

pub overflow_mul-row : goal.overflow_mul-row
overflow_mul-row c =
    let nodes = c.self.inside.nodes in
    let from_in : c.args.from < length nodes.items = subst (λ (p : Problem). c.args.from < place_count p) (sym c.self.view_is) c.requires.from_within in
    row_fits _ _ c.args.from (length nodes.items) from_in c.self.invariant.problem.few_places c.from.ensures (c.len.ensures ∙ nodes.ok.0)

pub overflow_add-row : goal.overflow_add-row
overflow_add-row c =
    let nodes = c.self.inside.nodes in
    let from_in : c.args.from < length nodes.items = subst (λ (p : Problem). c.args.from < place_count p) (sym c.self.view_is) c.requires.from_within in
    let to_in : c.args.to < length nodes.items = subst (λ (p : Problem). c.args.to < place_count p) (sym c.self.view_is) c.requires.to_within in
    place_fits _ _ _ c.args.from (length nodes.items) c.args.to from_in c.self.invariant.problem.few_places to_in c.from.ensures (c.len.ensures ∙ nodes.ok.0) c.from-2.ensures

pub index-requires : goal.index-requires
index-requires c =
    let nodes = c.self.inside.nodes in
    let inside : Problem = record { nodes = nodes.items; demands = c.self.inside.demands.items; weights = c.self.inside.weights.items; capacity = c.self.inside.capacity; trucks = c.self.inside.trucks } in
    let from_in : c.args.from < length nodes.items = subst (λ (p : Problem). c.args.from < place_count p) (sym c.self.view_is) c.requires.from_within in
    let to_in : c.args.to < length nodes.items = subst (λ (p : Problem). c.args.to < place_count p) (sym c.self.view_is) c.requires.to_within in
    rw c.self.inside.weights.ok.0 (arc_within inside c.args.from c.args.to _ _ _ c.self.invariant.problem from_in to_in c.from.ensures (c.len.ensures ∙ nodes.ok.0) c.from-2.ensures)

pub returns-clause-value : goal.returns-clause-value
returns-clause-value c =
    let nodes = c.self.inside.nodes in
    let inside : Problem = record { nodes = nodes.items; demands = c.self.inside.demands.items; weights = c.self.inside.weights.items; capacity = c.self.inside.capacity; trucks = c.self.inside.trucks } in
    let from_in : c.args.from < length nodes.items = subst (λ (p : Problem). c.args.from < place_count p) (sym c.self.view_is) c.requires.from_within in
    let to_in : c.args.to < length nodes.items = subst (λ (p : Problem). c.args.to < place_count p) (sym c.self.view_is) c.requires.to_within in
    let read : c.from-3.result ≡ weight_of inside c.args.from c.args.to = c.from-3.ensures ∙ arc_read inside c.args.from c.args.to _ _ _ _ c.self.invariant.problem from_in to_in c.from.ensures (c.len.ensures ∙ nodes.ok.0) c.from-2.ensures c.index.ensures in
    subst (λ (p : Problem). c.from-3.result ≡ weight_of p c.args.from c.args.to) c.self.view_is read

pub returns-clause-small : goal.returns-clause-small
returns-clause-small c =
    let nodes = c.self.inside.nodes in
    let inside : Problem = record { nodes = nodes.items; demands = c.self.inside.demands.items; weights = c.self.inside.weights.items; capacity = c.self.inside.capacity; trucks = c.self.inside.trucks } in
    let from_in : c.args.from < length nodes.items = subst (λ (p : Problem). c.args.from < place_count p) (sym c.self.view_is) c.requires.from_within in
    let to_in : c.args.to < length nodes.items = subst (λ (p : Problem). c.args.to < place_count p) (sym c.self.view_is) c.requires.to_within in
    let within = arc_within inside c.args.from c.args.to _ _ _ c.self.invariant.problem from_in to_in c.from.ensures (c.len.ensures ∙ nodes.ok.0) c.from-2.ensures in
    rw c.from-3.ensures (read_small inside.weights _ _ c.self.invariant.problem.small_weights within c.index.ensures)
