use Rattle.std.proofs.Common.{◌≡◌, ◌≤◌, ◌<◌, ◌∙◌, ap, length, subst, sym}
use Rattle.std.specs.Prelude.{slice_index}
use Rattle.std.proofs.lemmas.List.{get_or_read}
use Rattle.vrp_model.specs.Problem.{Problem, demand_of, place_count}
use Rattle.vrp_model.proofs.instance.Instance.demand.Goals as goal

pub index-requires : goal.index-requires
index-requires c =
    let place : c.args.place < length c.self.inside.nodes.items = subst (λ (p : Problem). c.args.place < place_count p) (sym c.self.view_is) c.requires in
    rw (c.from.ensures, c.self.inside.demands.ok.0, c.self.invariant.problem.one_demand_each) place

pub returns-clause-value : goal.returns-clause-value
returns-clause-value c =
    let demands = c.self.inside.demands.items in
    let place : c.args.place < length c.self.inside.nodes.items = subst (λ (p : Problem). c.args.place < place_count p) (sym c.self.view_is) c.requires in
    let within : c.from.result < length demands = rw (c.from.ensures, c.self.invariant.problem.one_demand_each) place in
    let read : c.index.result.now ≡ slice_index demands c.args.place = get_or_read demands c.from.result _ within c.index.ensures 0 ∙ ap (λ k. slice_index demands k) c.from.ensures in
    subst (λ (p : Problem). c.index.result.now ≡ demand_of p c.args.place) c.self.view_is read

pub returns-clause-fits : goal.returns-clause-fits
returns-clause-fits c =
    let demands = c.self.inside.demands.items in
    let place : c.args.place < length c.self.inside.nodes.items = subst (λ (p : Problem). c.args.place < place_count p) (sym c.self.view_is) c.requires in
    let within : c.from.result < length demands = rw (c.from.ensures, c.self.invariant.problem.one_demand_each) place in
    let read : c.index.result.now ≡ slice_index demands c.args.place = get_or_read demands c.from.result _ within c.index.ensures 0 ∙ ap (λ k. slice_index demands k) c.from.ensures in
    let fits : c.index.result.now ≤ c.self.inside.capacity = rw read (c.self.invariant.problem.fitting_demands c.args.place) in
    subst (λ (p : Problem). c.index.result.now ≤ p.capacity) c.self.view_is fits
