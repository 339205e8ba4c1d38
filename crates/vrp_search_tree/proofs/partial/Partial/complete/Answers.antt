use Rattle.std.proofs.Common.{◌≡◌, ◌∙◌, sym, subst, ◌<◌, arith}
use Rattle.std.proofs.lemmas.Bool.Decides.{nat_tests}
use Rattle.vrp_model.specs.Word.{IsLawfulWord}
use Rattle.vrp_search_tree.specs.Partial.{PartialPlan}
use Rattle.vrp_search_tree.proofs.Tallies.{lawful_word, none_unserved}
use Rattle.vrp_search_tree.proofs.PartialViews.{at_inside}
use Rattle.vrp_search_tree.proofs.partial.Partial.complete.Goals as goal

pub returns-then-self-eq0 : goal.returns-then-self-eq0
returns-then-self-eq0 c =
    let at = at_inside c.self.inside.instance.now c.self.inside.word.items c.at.result c.args.self.now c.self.view_is c.at.ensures in (
      λ ends.
          let none : c.at.result ≡ 0 = grind (arith, nat_tests, ends) in
          subst (λ (v : PartialPlan). IsLawfulWord v.problem v.word) c.self.view_is
          (lawful_word c.self.inside.instance.now c.self.inside.word.items c.self.inside.served.items c.self.inside.before.items c.self.inside.tally c.self.invariant.0 c.if-self-eq0.true (sym at ∙ none)),
      λ lawful. let none : c.at.result ≡ 0 = c.at.ensures ∙ lawful.closed in grind (arith, nat_tests, none),
    )

pub returns-else-self-eq0 : goal.returns-else-self-eq0
returns-else-self-eq0 c =
    let some : 0 < c.self.inside.tally.unserved = omega (arith, c.if-self-eq0.false) in (
      λ none. absurd (let zero_is : c.self.inside.tally.unserved ≡ 0 = grind (arith, nat_tests, none) in omega (arith, some, zero_is)),
      λ lawful. absurd (
          let inside : IsLawfulWord c.self.inside.instance.now c.self.inside.word.items = subst (λ (v : PartialPlan). IsLawfulWord v.problem v.word) (sym c.self.view_is) lawful in
          omega (arith, some, none_unserved c.self.inside.instance.now c.self.inside.word.items c.self.inside.served.items c.self.inside.before.items c.self.inside.tally c.self.invariant.0 inside)),
    )
