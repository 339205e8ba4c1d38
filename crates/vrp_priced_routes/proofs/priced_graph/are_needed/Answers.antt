use Rattle.std.proofs.Common.{◌≡◌, ℕ, get_or, ap, subst, ◌∙◌, arith, inl, inr}
use Rattle.std.proofs.lemmas.Bool.{cases_lt}
use Rattle.std.proofs.lemmas.List.{get_or_default}
use Rattle.vrp_duals.specs.Duals.{IsNeededFor}
use Rattle.vrp_priced_routes.proofs.priced_graph.are_needed.Goals as goal

pub loop-index-preserved : goal.loop-index-preserved
loop-index-preserved c = λ k d lt.
    let entries = c.args.entries.now in
    let at = c.loop-index.index in
    elim (cases_lt k at) [
      | inl less ↦ c.loop-index.invariant k d less
      | inr over ↦
          let same : at ≡ k = omega (arith, over, lt) in
          subst (IsNeededFor c.args.instance.now c.args.range.least_routes c.args.range.most_routes)
          (c.index-entries-index.is ∙ get_or_default entries at c.index-entries-index.result d c.loop-index-test.true ∙ ap (λ (n : ℕ). get_or entries n d) same)
          (c.is_needed_for.ensures.0 c.if-not-is_needed_for.false)
    ]
