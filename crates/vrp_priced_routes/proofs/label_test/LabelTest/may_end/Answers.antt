use Rattle.std.proofs.Common.{rules, ◌≡◌, ◌∙◌, ◌≤ℤ◌, ◌+ℤ◌, ℤ, arith, ap, sym, subst, to_z, of_z, w64}
use Rattle.std.proofs.lemmas.Int.{ints}
use Rattle.vrp_duals.specs.Folding.{arc_of}
use Rattle.vrp_labels.specs.Graph.{Follows, GraphOf}
use Rattle.vrp_labels.specs.Route.{IsCheap}
use Rattle.vrp_routes.specs.Useful.{IsUsefulIn}
use Rattle.vrp_priced_routes.specs.LabelTest.{LabelTestOf}
use Rattle.vrp_priced_routes.proofs.Beginnings.{ends_cheap, shown, sum_is}
use Rattle.vrp_priced_routes.proofs.label_test.LabelTest.may_end.Goals as goal

pub returns-then-follows-clause-ends : goal.returns-then-follows-clause-ends
returns-then-follows-clause-ends c = λ beginning begins cheap.
    let t = c.args.self.now in
    let forward = c.args.forward.now in
    let both = ends_cheap t.completions.graph t.completions.gap forward beginning begins cheap in
    let graph : c.self.inside.graph.now ≡ t.completions.graph = c.self.invariant.graph_is ∙ ap (λ (u : LabelTestOf). u.completions.graph) c.self.view_is in
    let stored : to_z w64 (of_z w64 c.self.inside.gap) ≡ c.self.inside.gap = search (rules, ints) in
    let gap : to_z w64 (of_z w64 c.self.inside.gap) ≡ t.completions.gap = stored ∙ (c.self.invariant.gap_is ∙ ap (λ (u : LabelTestOf). u.completions.gap) c.self.view_is) in
    let arc : c.arc.result ≡ arc_of t.completions.graph.folded forward.at 0 = c.arc.ensures.value ∙ ap (λ (g : GraphOf). arc_of g.folded forward.at 0) graph in
    let sum = sum_is forward.cost c.arc.result (omega (arith, c.requires.small, c.requires.light, c.places-places.ensures.known.capacity, ap (λ (g : GraphOf). g.capacity) graph)) (omega (arith, c.arc.ensures.small)) in
    shown _ _ (subst (λ (z : ℤ). z ≤ℤ to_z w64 (of_z w64 c.self.inside.gap)) (sym (sum ∙ ap (λ (z : ℤ). forward.cost +ℤ z) arc))
    (subst (λ (z : ℤ). (forward.cost +ℤ arc_of t.completions.graph.folded forward.at 0) ≤ℤ z) (sym gap) both.1))

pub returns-else-follows-clause-ends : goal.returns-else-follows-clause-ends
returns-else-follows-clause-ends c = λ beginning begins cheap.
    let t = c.args.self.now in
    let both = ends_cheap t.completions.graph t.completions.gap c.args.forward.now beginning begins cheap in
    let graph : c.self.inside.graph.now ≡ t.completions.graph = c.self.invariant.graph_is ∙ ap (λ (u : LabelTestOf). u.completions.graph) c.self.view_is in
    c.follows.ensures.1 (subst (λ (g : GraphOf). Follows g c.args.forward.now.at 0) (sym graph) both.0)

pub returns-then-follows-clause-cheap : goal.returns-then-follows-clause-cheap
returns-then-follows-clause-cheap c = λ stops useful.
    subst (λ (t : LabelTestOf). IsUsefulIn t.problem t.range stops → IsCheap t.completions.graph t.completions.gap stops) c.self.view_is (c.self.invariant.cheap stops) useful

pub returns-else-follows-clause-cheap : goal.returns-else-follows-clause-cheap
returns-else-follows-clause-cheap c = λ stops useful.
    subst (λ (t : LabelTestOf). IsUsefulIn t.problem t.range stops → IsCheap t.completions.graph t.completions.gap stops) c.self.view_is (c.self.invariant.cheap stops) useful
