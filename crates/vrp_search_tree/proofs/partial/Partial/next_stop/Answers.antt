use Rattle.std.proofs.Common.{◌≡◌, ◌∙◌, ◌<◌, [], ◌∷◌, ◌++◌, ap, sym, subst, true, false, Bool, inl, inr, arith}
use Rattle.std.proofs.lemmas.Bool.{cases_lt}
use Rattle.std.specs.Prelude.{slice_index_or}
use Rattle.vrp_model.specs.Word.{IsPrefix, last_symbol}
use Rattle.vrp_search_tree.specs.Partial.{PartialPlan}
use Rattle.vrp_search_tree.proofs.ChildScan.{none_behind, takes_in}
use Rattle.vrp_search_tree.proofs.PartialViews.{child_inside, child_outside}
use Rattle.vrp_search_tree.proofs.Tallies.{next_child, no_served_child}
use Rattle.vrp_search_tree.proofs.partial.Partial.next_stop.Goals.{else-not-index-via-then-not-index+else-demand-room, else-not-index-via-else-not-index}
use Rattle.vrp_search_tree.proofs.partial.Partial.next_stop.Goals as goal

pub loop-customer-init : goal.loop-customer-init
loop-customer-init c = record {
  none = λ k from below after.
      let is_depot : c.args.from ≡ 0 = grind (arith, from, below, c.max-customer.ensures) in
      let here : k ≡ 0 = grind (arith, from, below, c.max-customer.ensures) in
      c.requires.depot is_depot (subst (λ n. IsPrefix c.args.self.now.problem (c.args.self.now.word ++ n ∷ [])) here after);
}

pub returns-then-demand-room-clause-next : goal.returns-then-demand-room-clause-next
returns-then-demand-room-clause-next c =
    let p = c.self.inside.instance.now in
    let word = c.self.inside.word.items in
    let k = c.loop-customer.customer in
    let is_open : 0 < last_symbol word = subst (λ (v : PartialPlan). 0 < last_symbol v.word) (sym c.self.view_is) c.requires.open in
    let read : false ≡ slice_index_or c.self.inside.served.items c.from.result false = subst (λ (b : Bool). b ≡ slice_index_or c.self.inside.served.items c.from.result b) c.if-not-index.true c.index.ensures in
    let isnt_served : slice_index_or c.self.inside.served.items k false ≡ false = ap (λ n. slice_index_or c.self.inside.served.items n false) (sym c.from.ensures) ∙ sym read in
    let some : 0 < k = grind (arith, c.loop-customer.auto.customer, c.max-customer.ensures) in
    let child = next_child p word k c.self.inside.served.items c.self.inside.before.items c.self.inside.tally c.self.invariant.0
    some (omega (arith, c.loop-customer-test.true, c.customers-customer-end.ensures.value)) isnt_served is_open in
    record {
      within = grind (arith, c.loop-customer.auto.customer, c.max-customer.ensures);
      child = child_outside p word k c.args.self.now c.self.view_is (child.0 (omega (arith, c.if-demand-room.true, c.demand.ensures.value, c.capacity.ensures.value, c.self.invariant.0.now.light)));
      first = λ j from before after. c.loop-customer.invariant.none j from before after;
    }

pub loop-customer-preserved : goal.loop-customer-preserved
loop-customer-preserved c =
    let p = c.self.inside.instance.now in
    let word = c.self.inside.word.items in
    let j = c.loop-customer.customer in
    let is_open : 0 < last_symbol word = subst (λ (v : PartialPlan). 0 < last_symbol v.word) (sym c.self.view_is) c.requires.open in
    let some : 0 < j = grind (arith, c.loop-customer.auto.customer, c.max-customer.ensures) in
    let not_here : IsPrefix p (word ++ j ∷ []) → ⊥ = elim c.else-not-index.branch [
      | else-not-index-via-then-not-index+else-demand-room w ↦ λ after.
          let fits = takes_in p word j c.self.inside.served.items c.self.inside.before.items c.self.inside.tally c.self.invariant.0 is_open some after in
          omega (arith, fits, w.if-demand-room.false, w.demand.ensures.value, c.capacity.ensures.value)
      | else-not-index-via-else-not-index w ↦
          let read : true ≡ slice_index_or c.self.inside.served.items c.from.result true = subst (λ (b : Bool). b ≡ slice_index_or c.self.inside.served.items c.from.result b) w.if-not-index.false c.index.ensures in
          no_served_child p word j c.self.inside.served.items c.self.inside.before.items c.self.inside.tally c.self.invariant.0 some (omega (arith, c.loop-customer-test.true, c.customers-customer-end.ensures.value))
          (ap (λ k. slice_index_or c.self.inside.served.items k true) (sym c.from.ensures) ∙ sym read)
    ] in
    record {
      none = λ k from below after. elim (cases_lt k j) [
        | inl before ↦ c.loop-customer.invariant.none k from before after
        | inr behind ↦ not_here (subst (λ n. IsPrefix p (word ++ n ∷ [])) (omega (arith, behind, below)) (child_inside p word k c.args.self.now c.self.view_is after))
      ];
    }

pub returns-clause-next : goal.returns-clause-next
returns-clause-next c = λ k from after. elim (cases_lt k c.loop-customer.customer) [
  | inl before ↦ c.loop-customer.invariant.none k from before after
  | inr behind ↦ none_behind c.self.inside.instance.now c.self.inside.word.items k c.loop-customer.customer c.self.inside.served.items c.self.inside.before.items c.self.inside.tally c.self.invariant.0
      (omega (arith, c.loop-customer-test.false, c.customers-customer-end.ensures.value)) behind (child_inside c.self.inside.instance.now c.self.inside.word.items k c.args.self.now c.self.view_is after)
]
