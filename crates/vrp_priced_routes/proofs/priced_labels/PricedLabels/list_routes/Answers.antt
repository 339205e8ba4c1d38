use Rattle.std.proofs.Common.{rules, ◌≡◌, ◌∙◌, ℤ, List, ap, sym, subst, arith, to_z, of_z, w64}
use Rattle.std.proofs.lemmas.Int.{ints}
use Rattle.vrp_duals.specs.Duals.{DualsOf}
use Rattle.vrp_duals.specs.Folding.{AreFull}
use Rattle.vrp_labels.specs.Graph.{GraphOf}
use Rattle.vrp_labels.specs.Route.{IsCheap}
use Rattle.vrp_labels.specs.Widening.{AreWider, IsClosedBelow, with_memories}
use Rattle.vrp_routes.specs.Pool.{IsPoolIn, RouteOf}
use Rattle.vrp_routes.specs.Useful.{IsUsefulIn}
use Rattle.vrp_priced_routes.specs.Priced.{ArePricedLabels, PricedLabelsOf, PricedOf}
use Rattle.vrp_priced_routes.proofs.PassSteps.{closed_below, empty_pool, useful_cheap}
use Rattle.vrp_priced_routes.proofs.priced_labels.PricedLabels.list_routes.Goals as goal

pub returns-then-lower_bound-range : goal.returns-then-lower_bound-range
returns-then-lower_bound-range g c =
    let s = c.args.self in
    let are : ArePricedLabels s = subst ArePricedLabels c.self.view_is c.self.invariant in
    subst (λ (pool : List RouteOf). IsPoolIn s.priced.problem s.priced.range pool) (sym c.empty.ensures)
    (empty_pool s are (omega (arith, c.if-lower_bound-range.true, ap (λ (t : PricedLabelsOf). t.bound) c.self.view_is, ap (λ (t : PricedOf). t.range.limit) c.priced.view_is, ap (λ (t : PricedLabelsOf). t.priced.range.limit) c.self.view_is)))

pub widened-requires : goal.widened-requires
widened-requires g c =
    let s = c.args.self in
    let are : ArePricedLabels s = subst ArePricedLabels c.self.view_is c.self.invariant in
    let gap : to_z w64 (of_z w64 c.self.inside.gap) ≡ c.self.inside.gap = search (rules, ints) in
    let graph : c.priced.inside.graph ≡ s.priced.graph = ap (λ (t : PricedOf). t.graph) c.priced.view_is ∙ ap (λ (t : PricedLabelsOf). t.priced.graph) c.self.view_is in
    let wide : c.in-Some.wide ≡ with_memories s.priced.graph c.in_ok-memories.memories.items = c.in-Some.ensures.value ∙ ap (λ (h : GraphOf). with_memories h c.in_ok-memories.memories.items) graph in
    subst (λ (h : GraphOf). IsClosedBelow h (to_z w64 (of_z w64 c.self.inside.gap)) c.self.inside.labels) (sym wide)
    (subst (λ (z : ℤ). IsClosedBelow (with_memories s.priced.graph c.in_ok-memories.memories.items) z c.self.inside.labels) (sym (gap ∙ ap (λ (t : PricedLabelsOf). t.gap) c.self.view_is))
    (subst (λ labels. IsClosedBelow (with_memories s.priced.graph c.in_ok-memories.memories.items) s.gap labels) (sym (ap (λ (t : PricedLabelsOf). t.labels) c.self.view_is))
    (closed_below s c.in_ok-memories.memories.items are (subst (λ (h : GraphOf). AreWider h.folded c.in_ok-memories.memories.items) graph c.in-Some.ensures.wider))))

pub new-test-requires-clause-cheap : goal.new-test-requires-clause-cheap
new-test-requires-clause-cheap g c = λ stops useful.
    let s = c.args.self in
    let are : ArePricedLabels s = subst ArePricedLabels c.self.view_is c.self.invariant in
    let gap : to_z w64 (of_z w64 c.self.inside.gap) ≡ c.self.inside.gap = search (rules, ints) in
    let priced : _ ≡ s.priced = c.priced.view_is ∙ ap (λ (t : PricedLabelsOf). t.priced) c.self.view_is in
    let graph : c.priced.inside.graph ≡ s.priced.graph = ap (λ (t : PricedOf). t.graph) priced in
    let duals : c.priced.inside.duals.now ≡ s.priced.duals = ap (λ (t : PricedOf). t.duals) priced in
    let wide : c.in-Some.wide ≡ with_memories s.priced.graph c.in_ok-memories.memories.items = c.in-Some.ensures.value ∙ ap (λ (h : GraphOf). with_memories h c.in_ok-memories.memories.items) graph in
    let here : IsUsefulIn s.priced.problem s.priced.range stops = subst (λ (t : PricedOf). IsUsefulIn t.problem t.range stops) priced useful in
    subst (λ (h : GraphOf). IsCheap h (to_z w64 (of_z w64 c.self.inside.gap)) stops) (sym wide)
    (subst (λ (z : ℤ). IsCheap (with_memories s.priced.graph c.in_ok-memories.memories.items) z stops) (sym (gap ∙ ap (λ (t : PricedLabelsOf). t.gap) c.self.view_is))
    (useful_cheap s.priced s.gap c.in_ok-memories.memories.items stops are.priced are.gap (subst (λ (d : DualsOf). AreFull d c.in_ok-memories.memories.items) duals c.in_ok-memories.ensures.full) here))
