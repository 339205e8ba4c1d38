use Rattle.std.proofs.Common.{◌≡◌, ◌∙◌, ◌<◌, [], length, get_or, subst, arith}
use Rattle.vrp_routes.specs.Candidates.{HasExtensions}
use Rattle.vrp_routes.specs.Setting.{setting_of}
use Rattle.vrp_routes.proofs.Labels.{read_label}
use Rattle.vrp_routes.proofs.candidates.Candidates.extended.Goals as goal

pub offer_extensions-requires-clause-label : goal.offer_extensions-requires-clause-label
offer_extensions-requires-clause-label g c = λ _ _.
    let (k, stops, is) = c.requires.level in
    let i = c.loop-parent.parent in
    let lt : i < length stops = omega (arith, is.are.long, c.loop-parent-test.true, c.requires.to) in
    (get_or stops i [], read_label (setting_of g.T.CompletionTest c.args.setting.now.test.now) k stops c.args.labels.now i c.index-labels-parent.result is lt c.index-labels-parent.is)

pub loop-parent-preserved : goal.loop-parent-preserved
loop-parent-preserved g c = record {
  keyed = c.in_ok-offer_extensions.ensures.keyed;
  share = c.in_ok-offer_extensions.ensures.share ∙ c.loop-parent.invariant.share;
  extensions = λ k stops is has.
      let i = c.loop-parent.parent in
      let lt : i < length stops = omega (arith, is.are.long, c.loop-parent-test.true, c.requires.to) in
      c.in_ok-offer_extensions.ensures.extensions k stops lt (read_label (setting_of g.T.CompletionTest c.args.setting.now.test.now) k stops c.args.labels.now i c.index-labels-parent.result is lt c.index-labels-parent.is) (c.loop-parent.invariant.extensions k stops is has);
}

pub returns : goal.returns
returns g c = record {
  share = c.loop-parent.invariant.share;
  keyed = c.loop-parent.invariant.keyed;
  extensions = λ k stops is has.
      let end : c.loop-parent.parent ≡ c.args.to = omega (arith, c.requires.from, c.loop-parent-test.false, c.loop-parent.auto.parent-end) in
      subst (λ n. HasExtensions (setting_of g.T.CompletionTest c.args.setting.now.test.now) k stops n 0 c.loop-parent.self) end (c.loop-parent.invariant.extensions k stops is has);
}
