use Rattle.std.proofs.Common.{◌≡◌, ◌∙◌, false, subst, sym, true}
use Rattle.vrp_model.specs.Problem.{IsSymmetric}
use Rattle.vrp_model.specs.Word.{HasNoCompletion}
use Rattle.vrp_search_tree.specs.Partial.{PartialPlan}
use Rattle.vrp_search_tree.proofs.GreatestUnserved.{no_completion_told, told_no_completion}
use Rattle.vrp_search_tree.proofs.PartialViews.{at_inside}
use Rattle.vrp_search_tree.proofs.partial.Partial.has_no_completion.Goals as goal

pub returns-then-symmetric-clause-no_completion : goal.returns-then-symmetric-clause-no_completion
returns-then-symmetric-clause-no_completion c =
    let p = c.self.inside.instance.now in
    let word = c.self.inside.word.items in
    let t = c.self.inside.tally in
    let at = at_inside p word c.at.result c.args.self.now c.self.view_is c.at.ensures in
    let symmetric : IsSymmetric p = c.symmetric.ensures.0 c.if-symmetric.true in (
      λ told. subst (λ (v : PartialPlan). HasNoCompletion v.problem v.word) c.self.view_is (told_no_completion p word t c.at.result c.self.invariant.0.now at symmetric (c.has_no_completion.ensures.0 told)),
      λ no_completion. c.has_no_completion.ensures.1 (no_completion_told p word t c.at.result c.self.invariant.0.now at (subst (λ (v : PartialPlan). HasNoCompletion v.problem v.word) (sym c.self.view_is) no_completion)),
    )

pub returns-else-symmetric-clause-no_completion : goal.returns-else-symmetric-clause-no_completion
returns-else-symmetric-clause-no_completion c = (
  λ told. absurd (let never : false ≡ true = sym c.if-symmetric.false ∙ told in cc),
  λ no_completion. c.symmetric.ensures.1 (subst (λ (v : PartialPlan). HasNoCompletion v.problem v.word) (sym c.self.view_is) no_completion).symmetric,
)
