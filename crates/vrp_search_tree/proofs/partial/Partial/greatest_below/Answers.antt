use Rattle.std.proofs.Common.{◌≡◌, ◌<◌, ◌≤◌, ◌-◌, ◌∙◌, ℕ, Bool, true, false, ap, subst, sym, arith}
use Rattle.std.specs.Prelude.{slice_index_or}
use Rattle.vrp_model.specs.Problem.{place_count}
use Rattle.vrp_model.specs.Word.{stands_in}
use Rattle.vrp_search_tree.specs.Inner.Tallied.{IsGreatestBelow}
use Rattle.vrp_search_tree.specs.Partial.{PartialPlan}
use Rattle.vrp_search_tree.proofs.GreatestUnserved.{met_below, none_below}
use Rattle.vrp_search_tree.proofs.partial.Partial.greatest_below.Goals as goal

pub returns-then-not-index : goal.returns-then-not-index
returns-then-not-index c =
    let p = c.self.inside.instance.now in
    let word = c.self.inside.word.items in
    let lower = c.loop-lower.lower - 1 in
    let read : false ≡ slice_index_or c.self.inside.served.items c.from.result false = subst (λ (b : Bool). b ≡ slice_index_or c.self.inside.served.items c.from.result b) c.if-not-index.true c.index.ensures in
    let unflagged : slice_index_or c.self.inside.served.items lower false ≡ false = ap (λ k. slice_index_or c.self.inside.served.items k false) (sym c.from.ensures) ∙ sym read in
    let within : c.args.customer < place_count p = subst (λ (v : PartialPlan). c.args.customer < place_count v.problem) (sym c.self.view_is) c.requires in
    let served : (k : ℕ) → c.loop-lower.lower ≤ k → k < c.args.customer → stands_in word k ≡ true = subst (λ (v : PartialPlan). (k : ℕ) → c.loop-lower.lower ≤ k → k < c.args.customer → stands_in v.word k ≡ true) (sym c.self.view_is) c.loop-lower.invariant.served in
    subst (λ (v : PartialPlan). IsGreatestBelow v.problem v.word c.args.customer lower) c.self.view_is
    (met_below p word c.self.inside.served.items c.args.customer lower c.self.invariant.0.flags (omega (arith, c.loop-lower-test.true)) (omega (arith, c.loop-lower-test.true, c.loop-lower.auto.lower)) within unflagged
    (λ k above low. served k (omega (arith, above)) low))

pub returns : goal.returns
returns c = none_below c.args.self.now.problem c.args.self.now.word c.args.customer (λ k some low. c.loop-lower.invariant.served k (omega (arith, some, c.loop-lower-test.false)) low)
