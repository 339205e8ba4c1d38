use Rattle.std.proofs.Common.{◌≡◌, ◌∙◌, sym, subst, ap, ◌<◌, ◌≤◌, ◌+◌, [], ◌∷◌, ◌++◌, Bool, not, true, false, length, refl, arith}
use Rattle.std.proofs.lemmas.Bool.Decides.{nat_tests}
use Rattle.std.specs.Prelude.{IsTrue, slice_index_or}
use Rattle.vrp_model.specs.Problem.{HasTrucks}
use Rattle.vrp_model.specs.Word.{IsPrefix, last_symbol, routes_of}
use Rattle.vrp_model.proofs.PrefixPlaces.{symbol_is_place}
use Rattle.vrp_search_tree.specs.Partial.{PartialPlan}
use Rattle.vrp_search_tree.proofs.Tallies.{depot_child, first_child, next_child, no_served_child}
use Rattle.vrp_search_tree.proofs.PartialViews.{at_inside, child_inside, child_outside}
use Rattle.vrp_search_tree.proofs.partial.Partial.child.Goals.{then-symbol-customers-via-then-symbol-customers, then-symbol-customers-via-else-symbol-customers+then-index}
use Rattle.vrp_search_tree.proofs.partial.Partial.child.Goals as goal

-- a test that isn't told true is false
not_told : (b : Bool) → (IsTrue b → ⊥) → IsTrue (not b)
not_told true isnt = absurd (isnt refl)
not_told false isnt = refl

told_both : (b : Bool) → IsTrue b → IsTrue (not b) → ⊥
told_both true is isnt = let never : false ≡ true = isnt in cc
told_both false is isnt = let never : false ≡ true = is in cc

pub returns-then-self-at : goal.returns-then-self-at
returns-then-self-at c =
    let p = c.self.inside.instance.now in
    let word = c.self.inside.word.items in
    let at = at_inside p word c.at-at.result c.args.self.now c.self.view_is c.at-at.ensures in
    let child = depot_child p word c.self.inside.tally c.self.invariant.0.problem c.self.invariant.0.prefix c.self.invariant.0.now in
    let some : 0 < last_symbol word = omega (arith, at, c.if-at-ne0.true) in (
      λ test. child_outside p word c.args.symbol c.args.self.now c.self.view_is (subst (λ k. IsPrefix p (word ++ k ∷ [])) (sym c.if-symbol-eq0.true) (child.0 (some, λ symmetric. omega (arith, at, c.if-self-at.true)))),
      λ after. grind (arith, nat_tests, c.if-self-at.true),
    )

pub returns-else-self-at : goal.returns-else-self-at
returns-else-self-at c =
    let p = c.self.inside.instance.now in
    let word = c.self.inside.word.items in
    let at = at_inside p word c.at-at.result c.args.self.now c.self.view_is c.at-at.ensures in
    let child = depot_child p word c.self.inside.tally c.self.invariant.0.problem c.self.invariant.0.prefix c.self.invariant.0.now in
    let some : 0 < last_symbol word = omega (arith, at, c.if-at-ne0.true) in (
      λ test. child_outside p word c.args.symbol c.args.self.now c.self.view_is (subst (λ k. IsPrefix p (word ++ k ∷ [])) (sym c.if-symbol-eq0.true)
          (child.0 (some, λ symmetric. absurd (told_both c.symmetric.result (c.symmetric.ensures.1 symmetric) test)))),
      λ after.
          let inside = subst (λ k. IsPrefix p (word ++ k ∷ [])) c.if-symbol-eq0.true (child_inside p word c.args.symbol c.args.self.now c.self.view_is after) in
          not_told c.symmetric.result (λ is. omega (arith, (child.1 inside).1 (c.symmetric.ensures.0 is), at, c.if-self-at.false)),
    )

pub returns-else-at-ne0 : goal.returns-else-at-ne0
returns-else-at-ne0 c =
    let p = c.self.inside.instance.now in
    let word = c.self.inside.word.items in
    let at = at_inside p word c.at-at.result c.args.self.now c.self.view_is c.at-at.ensures in
    let child = depot_child p word c.self.inside.tally c.self.invariant.0.problem c.self.invariant.0.prefix c.self.invariant.0.now in (
      λ test. absurd (let some : 0 < c.at-at.result = grind (arith, nat_tests, test) in omega (arith, some, c.if-at-ne0.false)),
      λ after.
          let inside = subst (λ k. IsPrefix p (word ++ k ∷ [])) c.if-symbol-eq0.true (child_inside p word c.args.symbol c.args.self.now c.self.view_is after) in
          absurd (omega (arith, (child.1 inside).0, at, c.if-at-ne0.false)),
    )

pub returns-then-symbol-customers : goal.returns-then-symbol-customers
returns-then-symbol-customers c = (
  λ test. absurd (let never : false ≡ true = test in cc),
  λ after.
      let inside = child_inside c.self.inside.instance.now c.self.inside.word.items c.args.symbol c.args.self.now c.self.view_is after in
      let below = symbol_is_place c.self.inside.instance.now c.self.inside.word.items c.args.symbol c.self.invariant.0.problem inside in
      absurd (elim c.then-symbol-customers.branch [
        | then-symbol-customers-via-then-symbol-customers w ↦ omega (arith, below, w.if-symbol-customers.true, c.customers-customers.ensures.value)
        | then-symbol-customers-via-else-symbol-customers+then-index w ↦
            let read : true ≡ slice_index_or c.self.inside.served.items w.from.result true = subst (λ (b : Bool). b ≡ slice_index_or c.self.inside.served.items w.from.result b) w.if-index.true w.index.ensures in
            no_served_child c.self.inside.instance.now c.self.inside.word.items c.args.symbol c.self.inside.served.items c.self.inside.before.items c.self.inside.tally c.self.invariant.0 (omega (arith, c.if-symbol-eq0.false)) below (ap (λ k. slice_index_or c.self.inside.served.items k true) (sym w.from.ensures) ∙ sym read) inside
      ]),
)

pub returns-then-self-symbol : goal.returns-then-self-symbol
returns-then-self-symbol c =
    let p = c.self.inside.instance.now in
    let word = c.self.inside.word.items in
    let k = c.args.symbol in
    let at : last_symbol word ≡ 0 = ap (λ (v : PartialPlan). last_symbol v.word) c.self.view_is ∙ sym c.at-at.ensures ∙ c.if-at-eq0.true in
    let read : false ≡ slice_index_or c.self.inside.served.items c.from.result false = subst (λ (b : Bool). b ≡ slice_index_or c.self.inside.served.items c.from.result b) c.if-index.false c.index.ensures in
    let isnt_served : slice_index_or c.self.inside.served.items k false ≡ false = ap (λ n. slice_index_or c.self.inside.served.items n false) (sym c.from.ensures) ∙ sym read in
    let child = first_child p word k c.self.inside.served.items c.self.inside.before.items c.self.inside.tally c.self.invariant.0
    (omega (arith, c.if-symbol-eq0.false)) (omega (arith, c.if-symbol-customers.false, c.customers-customers.ensures.value)) isnt_served at in (
      λ test. child_outside p word k c.args.self.now c.self.view_is
          (child.0 (omega (arith, c.if-self-symbol.true), subst (λ (v : PartialPlan). HasTrucks v.problem (length (routes_of v.word) + 1)) (sym c.self.view_is) (c.has_truck.ensures.0 test))),
      λ after. c.has_truck.ensures.1 (subst (λ (v : PartialPlan). HasTrucks v.problem (length (routes_of v.word) + 1)) c.self.view_is (child.1 (child_inside p word k c.args.self.now c.self.view_is after)).1),
    )

pub returns-else-self-symbol : goal.returns-else-self-symbol
returns-else-self-symbol c =
    let p = c.self.inside.instance.now in
    let word = c.self.inside.word.items in
    let k = c.args.symbol in
    let at : last_symbol word ≡ 0 = ap (λ (v : PartialPlan). last_symbol v.word) c.self.view_is ∙ sym c.at-at.ensures ∙ c.if-at-eq0.true in
    let read : false ≡ slice_index_or c.self.inside.served.items c.from.result false = subst (λ (b : Bool). b ≡ slice_index_or c.self.inside.served.items c.from.result b) c.if-index.false c.index.ensures in
    let isnt_served : slice_index_or c.self.inside.served.items k false ≡ false = ap (λ n. slice_index_or c.self.inside.served.items n false) (sym c.from.ensures) ∙ sym read in
    let child = first_child p word k c.self.inside.served.items c.self.inside.before.items c.self.inside.tally c.self.invariant.0
    (omega (arith, c.if-symbol-eq0.false)) (omega (arith, c.if-symbol-customers.false, c.customers-customers.ensures.value)) isnt_served at in (
      λ test. absurd (let above : c.self.inside.tally.first_customer < k = grind (arith, nat_tests, test) in omega (arith, above, c.if-self-symbol.false)),
      λ after. absurd (omega (arith, (child.1 (child_inside p word k c.args.self.now c.self.view_is after)).0, c.if-self-symbol.false)),
    )

pub returns : goal.returns
returns c =
    let at = at_inside c.self.inside.instance.now c.self.inside.word.items c.at-at.result c.args.self.now c.self.view_is c.at-at.ensures in
    let read : false ≡ slice_index_or c.self.inside.served.items c.from.result false = subst (λ (b : Bool). b ≡ slice_index_or c.self.inside.served.items c.from.result b) c.if-index.false c.index.ensures in
    let isnt_served : slice_index_or c.self.inside.served.items c.args.symbol false ≡ false = ap (λ k. slice_index_or c.self.inside.served.items k false) (sym c.from.ensures) ∙ sym read in
    let child = next_child c.self.inside.instance.now c.self.inside.word.items c.args.symbol c.self.inside.served.items c.self.inside.before.items c.self.inside.tally c.self.invariant.0
    (omega (arith, c.if-symbol-eq0.false)) (omega (arith, c.if-symbol-customers.false, c.customers-customers.ensures.value)) isnt_served (omega (arith, at, c.if-at-eq0.false)) in (
      λ test.
          let light : c.self.inside.tally.load + c.demand.result ≤ c.capacity.result = grind (arith, nat_tests, test) in
          child_outside c.self.inside.instance.now c.self.inside.word.items c.args.symbol c.args.self.now c.self.view_is (child.0 (omega (arith, light, c.demand.ensures.value, c.capacity.ensures.value))),
      λ after.
          let fits = child.1 (child_inside c.self.inside.instance.now c.self.inside.word.items c.args.symbol c.args.self.now c.self.view_is after) in
          let light : c.self.inside.tally.load + c.demand.result ≤ c.capacity.result = omega (arith, fits, c.demand.ensures.value, c.capacity.ensures.value) in
          grind (arith, nat_tests, light),
    )
