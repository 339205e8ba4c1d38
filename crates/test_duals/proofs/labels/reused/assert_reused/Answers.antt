use Rattle.std.proofs.Common.{◌≡◌, ℤ, Option, ap, ◌∙◌, subst, sym, rules, to_z, of_z, w64}
use Rattle.std.specs.Prelude.{IfSome}
use Rattle.std.proofs.lemmas.Int.{ints}
use Rattle.vrp_labels.specs.Fixing.{with_followers}
use Rattle.vrp_labels.specs.Graph.{GraphOf}
use Rattle.vrp_labels.specs.Widening.{AreWider, IsClosedBelow, with_memories}
use Rattle.vrp_labels.proofs.Wider.{closed_below}
use Rattle.test_duals.proofs.labels.reused.assert_reused.Goals as goal

pub widened-requires : goal.widened-requires
widened-requires g c =
    let graph = c.args.found.graph in
    let alive = c.args.found.alive.items in
    let memories = c.args.found.memories.items in
    let wide = c.expect-wide.result in
    let same : to_z w64 (of_z w64 c.args.case.now.gap) ≡ c.args.case.now.gap = search (rules, ints) in
    let is : wide ≡ with_memories (with_followers graph alive) memories =
    subst (λ (o : Option GraphOf). IfSome o (λ w. w ≡ with_memories c.keep_arcs.result memories)) c.expect-wide.ensures c.widen.ensures.value ∙ ap (λ (k : GraphOf). with_memories k memories) c.keep_arcs.ensures in
    let wider : AreWider graph.folded memories =
    subst (λ (k : GraphOf). AreWider k.folded memories) c.keep_arcs.ensures (subst (λ (o : Option GraphOf). IfSome o (λ w. AreWider c.keep_arcs.result.folded memories)) c.expect-wide.ensures c.widen.ensures.wider) in
    subst (λ (z : ℤ). IsClosedBelow wide z c.args.found.kept) (sym same)
    (closed_below graph alive memories wide c.args.case.now.gap c.args.found.kept is c.requires.alive wider (record { long = c.requires.are_kept.long; each = c.requires.are_kept.each }) c.requires.closed)
