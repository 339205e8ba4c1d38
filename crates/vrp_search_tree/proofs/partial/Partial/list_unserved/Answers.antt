use Rattle.std.proofs.Common.{◌≡◌, ◌∙◌, ◌+◌, ◌<◌, List, ℕ, [], ◌∷◌, ◌++◌, Bool, true, false, length, length-append, ap, sym, subst, arith}
use Rattle.std.specs.Prelude.{slice_index_or}
use Rattle.std.proofs.lemmas.List.{get_or_default}
use Rattle.vrp_search_tree.specs.Partial.{PartialPlan}
use Rattle.vrp_model.specs.Problem.{place_count}
use Rattle.vrp_search_tree.proofs.UnservedListed.{flagged, unflagged, unserved_below}
use Rattle.vrp_search_tree.proofs.partial.Partial.list_unserved.Goals.{then-not-index, else-not-index}
use Rattle.vrp_search_tree.proofs.partial.Partial.list_unserved.Goals as goal

pub push_reserved-requires : goal.push_reserved-requires
push_reserved-requires c =
    let places : place_count c.self.inside.instance.now ≡ place_count c.args.self.now.problem = ap (λ (v : PartialPlan). place_count v.problem) c.self.view_is in
    omega (arith, places, c.requires, c.loop-customer.invariant.short, c.loop-customer.invariant.room, c.loop-customer-test.true, c.customers-customer-end.ensures.value, c.loop-customer.list.ok)

pub loop-customer-preserved : goal.loop-customer-preserved
loop-customer-preserved c =
    let p = c.self.inside.instance.now in
    let word = c.self.inside.word.items in
    let same : word ≡ c.args.self.now.word = ap (λ (v : PartialPlan). v.word) c.self.view_is in
    let k = c.loop-customer.customer in
    let below : k < place_count p = omega (arith, c.loop-customer-test.true, c.customers-customer-end.ensures.value) in
    elim c.if-not-index.branch [
      | then-not-index w ↦
          let read : false ≡ slice_index_or c.self.inside.served.items c.from.result false = subst (λ (b : Bool). b ≡ slice_index_or c.self.inside.served.items c.from.result b) w.if-not-index.true c.index.ensures in
          let isnt : slice_index_or c.self.inside.served.items k false ≡ false = ap (λ n. slice_index_or c.self.inside.served.items n false) (sym c.from.ensures) ∙ sym read in
          let more = subst (λ (v : List ℕ). unserved_below v (k + 1) ≡ unserved_below v k ++ k ∷ []) same (unflagged p word c.self.inside.served.items k c.self.invariant.0.flags (omega (arith, c.loop-customer.auto.customer)) below isnt) in
          rw w.list-is (record {
            listed = w.push_reserved.ensures.items ∙ ap (λ (xs : List ℕ). xs ++ k ∷ []) c.loop-customer.invariant.listed ∙ sym more;
            short = omega (arith, c.loop-customer.invariant.short, ap length w.push_reserved.ensures.items, length-append c.loop-customer.list.items (k ∷ []));
            room = w.push_reserved.ensures.capacity ∙ c.loop-customer.invariant.room;
          })
      | else-not-index w ↦
          let read : true ≡ slice_index_or c.self.inside.served.items c.from.result true = subst (λ (b : Bool). b ≡ slice_index_or c.self.inside.served.items c.from.result b) w.if-not-index.false c.index.ensures in
          let default = get_or_default c.self.inside.served.items k true false (omega (arith, below, c.self.invariant.0.one_flag_each)) in
          let is : slice_index_or c.self.inside.served.items k false ≡ true = sym default ∙ ap (λ n. slice_index_or c.self.inside.served.items n true) (sym c.from.ensures) ∙ sym read in
          let stays = subst (λ (v : List ℕ). unserved_below v (k + 1) ≡ unserved_below v k) same (flagged p word c.self.inside.served.items k c.self.invariant.0.flags (omega (arith, c.loop-customer.auto.customer)) below is) in
          rw w.list-is (record {
            listed = c.loop-customer.invariant.listed ∙ sym stays;
            short = omega (arith, c.loop-customer.invariant.short);
            room = c.loop-customer.invariant.room;
          })
    ]

pub returns-clause-listed : goal.returns-clause-listed
returns-clause-listed c =
    let places : place_count c.self.inside.instance.now ≡ place_count c.args.self.now.problem = ap (λ (v : PartialPlan). place_count v.problem) c.self.view_is in
    let end : c.loop-customer.customer ≡ place_count c.args.self.now.problem = omega (arith, c.loop-customer-test.false, c.loop-customer.auto.customer-end (omega arith), c.customers-customer-end.ensures.value, places) in
    c.loop-customer.invariant.listed ∙ ap (unserved_below c.args.self.now.word) end
