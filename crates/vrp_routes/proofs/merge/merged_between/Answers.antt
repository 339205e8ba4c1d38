use Rattle.std.proofs.Common.{◌≡◌, ◌∙◌, List, length, sym, ap, subst, arith, rules}
use Rattle.std.specs.List.{AllPairs}
use Rattle.vrp_routes.specs.Level.{ComesFirst}
use Rattle.vrp_routes.specs.Merge.{AreMerged, IsCut, IsMerged, labels_at}
use Rattle.vrp_routes.specs.declared.label.Label.{Label}
use Rattle.vrp_routes.proofs.MergeRounds.{labels_there, merges_part}
use Rattle.vrp_routes.proofs.merge.merged_between.Goals as goal

pub labels_between-more-requires-clause-rising : goal.labels_between-more-requires-clause-rising
labels_between-more-requires-clause-rising g c =
    let n = c.loop-index.index in
    let part = c.index-parts-index.result in
    let there : labels_at c.args.parts.now n ≡ c.as_slice.result.now = labels_there c.args.parts.now n part c.loop-index-test.true ∙ ap (λ v. v.items) (sym c.index-parts-index.is) ∙ sym c.as_slice.ensures.value in
    subst (AllPairs ComesFirst) there (c.requires.can.rising n)

pub loop-index-preserved : goal.loop-index-preserved
loop-index-preserved g c =
    let parts = c.args.parts.now in
    let n = c.loop-index.index in
    let part = c.index-parts-index.result in
    let old = c.loop-index.labels.items in
    let cut = c.labels_between-more.result.now in
    let there : labels_at parts n ≡ c.as_slice.result.now = labels_there parts n part c.loop-index-test.true ∙ ap (λ v. v.items) (sym c.index-parts-index.is) ∙ sym c.as_slice.ensures.value in
    merges_part parts n c.args.from c.args.to old cut c.in_ok-labels.labels.items c.requires.can c.loop-index.invariant
    (subst (λ (ls : List (Label g.row.X.Denot)). IsCut c.args.from c.args.to ls cut) (sym there) c.labels_between-more.ensures)
    (subst (λ (ls : List (Label g.row.X.Denot)). IsMerged ls cut c.in_ok-labels.labels.items) c.deref.ensures.value c.in_ok-labels.ensures)

pub loop-index-init : goal.loop-index-init
loop-index-init g c = search rules

pub returns : goal.returns
returns g c =
    let all : c.loop-index.index ≡ length c.args.parts.now = omega (arith, c.loop-index-test.false, c.loop-index.auto.index-end) in
    subst (λ n. AreMerged c.args.parts.now n c.args.from c.args.to c.loop-index.labels.items) all c.loop-index.invariant
