use Rattle.std.proofs.Common.{◌≡◌, ◌∙◌, [], ◌∷◌, ◌++◌, false, subst, sym, true}
use Rattle.vrp_model.specs.Problem.{IsSymmetric}
use Rattle.vrp_model.proofs.LastRoute.{last_symbol_with}
use Rattle.vrp_search_tree.specs.Partial.{PartialPlan}
use Rattle.vrp_search_tree.proofs.GreatestUnserved.{no_completion_told, told_no_completion}
use Rattle.vrp_search_tree.proofs.partial.Partial.child_has_no_completion.Goals as goal

pub returns-then-symmetric-clause-no_completion : goal.returns-then-symmetric-clause-no_completion
returns-then-symmetric-clause-no_completion c =
    let p = c.args.self.now.problem in
    let word = c.args.self.now.word in
    let k = c.args.symbol in
    let t = c.args.tally in
    let at = sym (last_symbol_with word k) in
    let symmetric : IsSymmetric p = subst (λ (v : PartialPlan). IsSymmetric v.problem) c.self.view_is (c.symmetric.ensures.0 c.if-symmetric.true) in (
      λ told. told_no_completion p (word ++ k ∷ []) t k c.requires at symmetric (c.has_no_completion.ensures.0 told),
      λ no_completion. c.has_no_completion.ensures.1 (no_completion_told p (word ++ k ∷ []) t k c.requires at no_completion),
    )

pub returns-else-symmetric-clause-no_completion : goal.returns-else-symmetric-clause-no_completion
returns-else-symmetric-clause-no_completion c = (
  λ told. absurd (let never : false ≡ true = sym c.if-symmetric.false ∙ told in cc),
  λ no_completion. c.symmetric.ensures.1 (subst (λ (v : PartialPlan). IsSymmetric v.problem) (sym c.self.view_is) no_completion.symmetric),
)
