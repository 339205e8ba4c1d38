use Rattle.std.proofs.Common.{◌≡◌, ℕ, ℤ, Vec, ap, ◌∙◌, subst, sym, rules, to_z, of_z, w64}
use Rattle.std.specs.Global.{Global}
use Rattle.std.proofs.lemmas.Int.{ints}
use Rattle.std.proofs.lemmas.Result.{IfOk-at_ok}
use Rattle.vrp_labels.specs.Completion.{CompletionsOf}
use Rattle.vrp_labels.specs.Fixing.{AreAlive}
use Rattle.vrp_labels.specs.Graph.{GraphOf}
use Rattle.vrp_labels.specs.Label.{IsClosed}
use Rattle.test_duals.proofs.labels.reused.compare.Goals as goal

pub assert_reused-requires-clause-alive : goal.assert_reused-requires-clause-alive
assert_reused-requires-clause-alive g c =
    let graph = c.whole_graph-graph.result in
    let s = c.expect-completions.result in
    let same : s.graph ≡ graph = IfOk-at_ok (λ (t : CompletionsOf). t.graph ≡ graph) c.expect-completions.ensures c.new.ensures.graph in
    subst (λ (h : GraphOf). AreAlive h c.expect-alive.result.items) same (IfOk-at_ok (λ (f : Vec ℕ Global). AreAlive s.graph f.items) c.expect-alive.ensures c.useful_arcs_between.ensures.alive)

pub assert_reused-requires-clause-closed : goal.assert_reused-requires-clause-closed
assert_reused-requires-clause-closed g c =
    let graph = c.whole_graph-graph.result in
    let gap = to_z w64 (of_z w64 c.args.gap) in
    let s = c.expect-completions.result in
    let kept = c.into_labels-kept.result in
    let same : s.graph ≡ graph = IfOk-at_ok (λ (t : CompletionsOf). t.graph ≡ graph) c.expect-completions.ensures c.new.ensures.graph in
    let alike : s.gap ≡ gap = IfOk-at_ok (λ (t : CompletionsOf). t.gap ≡ gap) c.expect-completions.ensures c.new.ensures.gap in
    subst (λ (z : ℤ). IsClosed graph z kept) alike (subst (λ (h : GraphOf). IsClosed h s.gap kept) same c.into_labels-kept.ensures.closed)
