use Rattle.std.proofs.Common.{◌≡◌, ◌∙◌, ◌+◌, [], ◌∷◌, ◌++◌, length, ap, sym, subst, true, false, Bool, inl, inr, arith}
use Rattle.std.proofs.lemmas.Bool.{cases_lt}
use Rattle.std.specs.Prelude.{slice_index_or}
use Rattle.vrp_model.specs.Problem.{HasTrucks}
use Rattle.vrp_model.specs.Word.{IsPrefix, last_symbol, routes_of}
use Rattle.vrp_search_tree.specs.Partial.{PartialPlan}
use Rattle.vrp_search_tree.proofs.ChildScan.{none_behind, opens_route}
use Rattle.vrp_search_tree.proofs.PartialViews.{child_inside, child_outside}
use Rattle.vrp_search_tree.proofs.Tallies.{first_child, no_served_child}
use Rattle.vrp_search_tree.proofs.partial.Partial.next_opening.Goals.{else-first_customer-customer-via-then-first_customer-customer+else-not-index, else-first_customer-customer-via-else-first_customer-customer}
use Rattle.vrp_search_tree.proofs.partial.Partial.next_opening.Goals as goal

pub returns-then-not-has_truck-clause-next : goal.returns-then-not-has_truck-clause-next
returns-then-not-has_truck-clause-next c = λ k from after.
    let at_depot : last_symbol c.self.inside.word.items ≡ 0 = ap (λ (v : PartialPlan). last_symbol v.word) c.self.view_is ∙ c.requires in
    let opens = opens_route c.self.inside.instance.now c.self.inside.word.items k c.self.inside.served.items c.self.inside.before.items c.self.inside.tally c.self.invariant.0 at_depot (child_inside c.self.inside.instance.now c.self.inside.word.items k c.args.self.now c.self.view_is after) in
    let told : c.has_truck.result ≡ true = c.has_truck.ensures.1 (subst (λ (v : PartialPlan). HasTrucks v.problem (length (routes_of v.word) + 1)) c.self.view_is opens.1) in
    absurd (let never : true ≡ false = sym told ∙ c.if-not-has_truck.true in cc)

pub loop-customer-init : goal.loop-customer-init
loop-customer-init c = record {
  none = λ k from below after.
      let at_depot : last_symbol c.self.inside.word.items ≡ 0 = ap (λ (v : PartialPlan). last_symbol v.word) c.self.view_is ∙ c.requires in
      let opens = opens_route c.self.inside.instance.now c.self.inside.word.items k c.self.inside.served.items c.self.inside.before.items c.self.inside.tally c.self.invariant.0 at_depot (child_inside c.self.inside.instance.now c.self.inside.word.items k c.args.self.now c.self.view_is after) in
      grind (arith, opens, from, below, c.max-customer.ensures);
}

pub returns-then-not-index-clause-next : goal.returns-then-not-index-clause-next
returns-then-not-index-clause-next c =
    let p = c.self.inside.instance.now in
    let word = c.self.inside.word.items in
    let k = c.loop-customer.customer in
    let at_depot : last_symbol word ≡ 0 = ap (λ (v : PartialPlan). last_symbol v.word) c.self.view_is ∙ c.requires in
    let read : false ≡ slice_index_or c.self.inside.served.items c.from.result false = subst (λ (b : Bool). b ≡ slice_index_or c.self.inside.served.items c.from.result b) c.if-not-index.true c.index.ensures in
    let isnt_served : slice_index_or c.self.inside.served.items k false ≡ false = ap (λ n. slice_index_or c.self.inside.served.items n false) (sym c.from.ensures) ∙ sym read in
    let child = first_child p word k c.self.inside.served.items c.self.inside.before.items c.self.inside.tally c.self.invariant.0
    (omega (arith, c.if-first_customer-customer.true)) (omega (arith, c.loop-customer-test.true, c.customers-customer-end.ensures.value)) isnt_served at_depot in
    record {
      within = grind (arith, c.loop-customer.auto.customer, c.max-customer.ensures);
      child = child_outside p word k c.args.self.now c.self.view_is
          (child.0 (omega (arith, c.if-first_customer-customer.true), subst (λ (v : PartialPlan). HasTrucks v.problem (length (routes_of v.word) + 1)) (sym c.self.view_is) (c.has_truck.ensures.0 c.if-not-has_truck.false)));
      first = λ j from before after. c.loop-customer.invariant.none j from before after;
    }

pub loop-customer-preserved : goal.loop-customer-preserved
loop-customer-preserved c =
    let p = c.self.inside.instance.now in
    let word = c.self.inside.word.items in
    let j = c.loop-customer.customer in
    let at_depot : last_symbol word ≡ 0 = ap (λ (v : PartialPlan). last_symbol v.word) c.self.view_is ∙ c.requires in
    let not_here : IsPrefix p (word ++ j ∷ []) → ⊥ = elim c.else-first_customer-customer.branch [
      | else-first_customer-customer-via-then-first_customer-customer+else-not-index w ↦
          let read : true ≡ slice_index_or c.self.inside.served.items w.from.result true = subst (λ (b : Bool). b ≡ slice_index_or c.self.inside.served.items w.from.result b) w.if-not-index.false w.index.ensures in
          no_served_child p word j c.self.inside.served.items c.self.inside.before.items c.self.inside.tally c.self.invariant.0 (omega (arith, w.if-first_customer-customer.true)) (omega (arith, c.loop-customer-test.true, c.customers-customer-end.ensures.value))
          (ap (λ k. slice_index_or c.self.inside.served.items k true) (sym w.from.ensures) ∙ sym read)
      | else-first_customer-customer-via-else-first_customer-customer w ↦ λ after.
          let opens = opens_route p word j c.self.inside.served.items c.self.inside.before.items c.self.inside.tally c.self.invariant.0 at_depot after in
          omega (arith, opens.0, w.if-first_customer-customer.false)
    ] in
    record {
      none = λ k from below after. elim (cases_lt k j) [
        | inl before ↦ c.loop-customer.invariant.none k from before after
        | inr behind ↦ not_here (subst (λ n. IsPrefix p (word ++ n ∷ [])) (omega (arith, behind, below)) (child_inside p word k c.args.self.now c.self.view_is after))
      ];
    }

pub returns-clause-next : goal.returns-clause-next
returns-clause-next c = λ k from after. elim (cases_lt k c.loop-customer.customer) [
  | inl before ↦ c.loop-customer.invariant.none k from before after
  | inr behind ↦ none_behind c.self.inside.instance.now c.self.inside.word.items k c.loop-customer.customer c.self.inside.served.items c.self.inside.before.items c.self.inside.tally c.self.invariant.0
      (omega (arith, c.loop-customer-test.false, c.customers-customer-end.ensures.value)) behind (child_inside c.self.inside.instance.now c.self.inside.word.items k c.args.self.now c.self.view_is after)
]
