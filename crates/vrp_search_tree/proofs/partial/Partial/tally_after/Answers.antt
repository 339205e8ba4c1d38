use Rattle.std.proofs.Common.{◌≡◌, ◌∙◌, sym, subst, ap, refl, ◌<◌, ◌≤◌, ◌+◌, ◌*◌, ◌-◌, [], ◌∷◌, ◌++◌, length, arith}
use Rattle.vrp_model.specs.Problem.{place_count, weight_of}
use Rattle.vrp_model.specs.Word.{IsPrefix, last_symbol}
use Rattle.vrp_model.proofs.PrefixPlaces.{last_is_place, symbol_is_place}
use Rattle.vrp_search_tree.specs.Partial.{PartialPlan}
use Rattle.vrp_search_tree.specs.declared.tally.Tally.{Tally}
use Rattle.vrp_search_tree.specs.Inner.Tallied.{IsGreatestBelow}
use Rattle.vrp_search_tree.specs.Tally.{IsGreatestUnserved, IsTally}
use Rattle.vrp_search_tree.proofs.PrefixLength.{routes_are_few}
use Rattle.vrp_search_tree.proofs.GreatestUnserved.{greatest_stays, next_greatest}
use Rattle.vrp_search_tree.proofs.Tallies.{added, cost_fits, room_left, tally_at_customer, tally_at_depot}
use Rattle.vrp_model.proofs.PrefixWithSymbol.{closed_is_open}
use Rattle.vrp_search_tree.proofs.ArcsIn.{inbound_sum_with}
use Rattle.vrp_search_tree.proofs.PartialViews.{at_inside, child_inside}
use Rattle.vrp_search_tree.proofs.partial.Partial.tally_after.Goals.{then-at-eq0, else-at-eq0, then-symbol-tally, else-symbol-tally, then-at-eq0-2, else-at-eq0-2}
use Rattle.vrp_search_tree.proofs.partial.Partial.tally_after.Goals as goal

pub weight-requires-clause-from_within : goal.weight-requires-clause-from_within
weight-requires-clause-from_within c =
    let at = at_inside c.self.inside.instance.now c.self.inside.word.items c.at-at.result c.args.self.now c.self.view_is c.at-at.ensures in
    omega (arith, at, last_is_place c.self.inside.instance.now c.self.inside.word.items c.self.invariant.0.problem c.self.invariant.0.prefix)

pub weight-requires-clause-to_within : goal.weight-requires-clause-to_within
weight-requires-clause-to_within c =
    let after = child_inside c.self.inside.instance.now c.self.inside.word.items c.args.symbol c.args.self.now c.self.view_is c.requires in
    symbol_is_place c.self.inside.instance.now c.self.inside.word.items c.args.symbol c.self.invariant.0.problem after

pub overflow_add-cost : goal.overflow_add-cost
overflow_add-cost c =
    let after = child_inside c.self.inside.instance.now c.self.inside.word.items c.args.symbol c.args.self.now c.self.view_is c.requires in
    let small = cost_fits c.self.inside.instance.now c.self.inside.word.items c.args.symbol c.self.inside.tally c.self.invariant.0.problem after c.self.invariant.0.now in
    omega (arith, small, c.weight.ensures.small)

pub demand-demand-requires : goal.demand-demand-requires
demand-demand-requires c =
    let after = child_inside c.self.inside.instance.now c.self.inside.word.items c.args.symbol c.args.self.now c.self.view_is c.requires in
    symbol_is_place c.self.inside.instance.now c.self.inside.word.items c.args.symbol c.self.invariant.0.problem after

pub overflow_sub-result : goal.overflow_sub-result
overflow_sub-result c =
    let after = child_inside c.self.inside.instance.now c.self.inside.word.items c.args.symbol c.args.self.now c.self.view_is c.requires in
    let facts = added c.self.inside.instance.now c.self.inside.word.items c.args.symbol c.self.inside.tally c.self.invariant.0.problem c.self.invariant.0.prefix (omega (arith, c.if-symbol-eq0.false)) after c.self.invariant.0.now in
    omega (arith, facts.left, c.demand-demand.ensures.value)

pub least_in-requires-clause-within : goal.least_in-requires-clause-within
least_in-requires-clause-within c =
    let after = child_inside c.self.inside.instance.now c.self.inside.word.items c.args.symbol c.args.self.now c.self.view_is c.requires in
    symbol_is_place c.self.inside.instance.now c.self.inside.word.items c.args.symbol c.self.invariant.0.problem after

pub overflow_sub-result-2 : goal.overflow_sub-result-2
overflow_sub-result-2 c =
    let after = child_inside c.self.inside.instance.now c.self.inside.word.items c.args.symbol c.args.self.now c.self.view_is c.requires in
    let arcs = inbound_sum_with c.self.inside.instance.now c.self.inside.word.items c.args.symbol c.self.inside.tally.inbound_sum c.least_in.result (omega (arith, c.if-symbol-eq0.false)) c.self.invariant.0.prefix after c.self.invariant.0.now.inbound_sum c.least_in.ensures.least in
    arcs.left

pub overflow_sub-result-3 : goal.overflow_sub-result-3
overflow_sub-result-3 c =
    let after = child_inside c.self.inside.instance.now c.self.inside.word.items c.args.symbol c.args.self.now c.self.view_is c.requires in
    let facts = added c.self.inside.instance.now c.self.inside.word.items c.args.symbol c.self.inside.tally c.self.invariant.0.problem c.self.invariant.0.prefix (omega (arith, c.if-symbol-eq0.false)) after c.self.invariant.0.now in
    omega (arith, facts.some_left)

pub overflow_add-routes : goal.overflow_add-routes
overflow_add-routes c =
    let p = c.self.inside.instance.now in
    let word = c.self.inside.word.items in
    omega (arith, c.self.invariant.0.now.routes, routes_are_few p word c.self.invariant.0.problem c.self.invariant.0.prefix)

pub greatest_below-greatest-requires : goal.greatest_below-greatest-requires
greatest_below-greatest-requires c =
    let after = child_inside c.self.inside.instance.now c.self.inside.word.items c.args.symbol c.args.self.now c.self.view_is c.requires in
    subst (λ (v : PartialPlan). c.args.symbol < place_count v.problem) c.self.view_is (symbol_is_place c.self.inside.instance.now c.self.inside.word.items c.args.symbol c.self.invariant.0.problem after)

pub returns-then-symbol-eq0-clause-tally : goal.returns-then-symbol-eq0-clause-tally
returns-then-symbol-eq0-clause-tally c =
    let at = at_inside c.self.inside.instance.now c.self.inside.word.items c.at-at.result c.args.self.now c.self.view_is c.at-at.ensures in
    let after : IsPrefix c.self.inside.instance.now (c.self.inside.word.items ++ 0 ∷ []) = subst (λ k. IsPrefix c.self.inside.instance.now (c.self.inside.word.items ++ k ∷ [])) c.if-symbol-eq0.true (child_inside c.self.inside.instance.now c.self.inside.word.items c.args.symbol c.args.self.now c.self.view_is c.requires) in
    let weight : c.weight.result ≡ weight_of c.self.inside.instance.now (last_symbol c.self.inside.word.items) 0 = c.weight.ensures.value ∙ ap (λ n. weight_of c.self.inside.instance.now n c.args.symbol) at ∙ ap (weight_of c.self.inside.instance.now (last_symbol c.self.inside.word.items)) c.if-symbol-eq0.true in
    let tally = tally_at_depot c.self.inside.instance.now c.self.inside.word.items c.self.inside.tally (c.self.inside.tally.cost + c.weight.result) c.self.invariant.0.problem c.self.invariant.0.prefix (closed_is_open c.self.inside.instance.now c.self.inside.word.items after) c.self.invariant.0.now (omega (arith, weight)) in
    let new : Tally = record { cost = c.self.inside.tally.cost + c.weight.result; load = 0; rest = c.self.inside.tally.rest; inbound_sum = c.self.inside.tally.inbound_sum; first_customer = c.self.inside.tally.first_customer; unserved = c.self.inside.tally.unserved; greatest = c.self.inside.tally.greatest; routes = c.self.inside.tally.routes } in
    subst (λ (v : PartialPlan). IsTally v.problem (v.word ++ c.args.symbol ∷ []) new) c.self.view_is (subst (λ k. IsTally c.self.inside.instance.now (c.self.inside.word.items ++ k ∷ []) new) (sym c.if-symbol-eq0.true) tally)

pub returns-then-symbol-eq0-clause-short : goal.returns-then-symbol-eq0-clause-short
returns-then-symbol-eq0-clause-short c =
    let after = child_inside c.self.inside.instance.now c.self.inside.word.items c.args.symbol c.args.self.now c.self.view_is c.requires in
    subst (λ (v : PartialPlan). length v.word + 3 ≤ 2 * place_count v.problem) c.self.view_is (room_left c.self.inside.instance.now c.self.inside.word.items c.args.symbol c.self.invariant.0.problem after)

pub returns-clause-tally : goal.returns-clause-tally
returns-clause-tally c =
    let at = at_inside c.self.inside.instance.now c.self.inside.word.items c.at-at.result c.args.self.now c.self.view_is c.at-at.ensures in
    let after = child_inside c.self.inside.instance.now c.self.inside.word.items c.args.symbol c.args.self.now c.self.view_is c.requires in
    let weight : c.weight.result ≡ weight_of c.self.inside.instance.now (last_symbol c.self.inside.word.items) c.args.symbol = c.weight.ensures.value ∙ ap (λ n. weight_of c.self.inside.instance.now n c.args.symbol) at in
    let starts : last_symbol c.self.inside.word.items ≡ 0 → c.if-at-eq0.first_customer ≡ c.args.symbol = λ none. elim c.if-at-eq0.branch [ then-at-eq0 w ↦ w.first_customer-is | else-at-eq0 w ↦ absurd (omega (arith, none, at, w.if-at-eq0.false)) ] in
    let continues : 0 < last_symbol c.self.inside.word.items → c.if-at-eq0.first_customer ≡ c.self.inside.tally.first_customer = λ some. elim c.if-at-eq0.branch [ then-at-eq0 w ↦ absurd (omega (arith, some, at, w.if-at-eq0.true)) | else-at-eq0 w ↦ w.first_customer-is ] in
    let greatest : IsGreatestUnserved c.self.inside.instance.now (c.self.inside.word.items ++ c.args.symbol ∷ []) c.if-symbol-tally.greatest = elim c.if-symbol-tally.branch [
      | then-symbol-tally w ↦
          let lower = subst (λ (v : PartialPlan). IsGreatestBelow v.problem v.word c.args.symbol w.greatest_below-greatest.result) (sym c.self.view_is) w.greatest_below-greatest.ensures in
          rw w.greatest-is (next_greatest c.self.inside.instance.now c.self.inside.word.items c.args.symbol c.self.inside.tally.greatest w.greatest_below-greatest.result w.if-symbol-tally.true c.self.invariant.0.now.greatest lower)
      | else-symbol-tally w ↦ rw w.greatest-is (greatest_stays c.self.inside.instance.now c.self.inside.word.items c.args.symbol c.self.inside.tally.greatest w.if-symbol-tally.false c.self.invariant.0.now.greatest)
    ] in
    let one_more : last_symbol c.self.inside.word.items ≡ 0 → c.if-at-eq0-2.routes ≡ c.self.inside.tally.routes + 1 = λ none. elim c.if-at-eq0-2.branch [ then-at-eq0-2 w ↦ w.routes-is | else-at-eq0-2 w ↦ absurd (omega (arith, none, at, w.if-at-eq0-2.false)) ] in
    let stays : 0 < last_symbol c.self.inside.word.items → c.if-at-eq0-2.routes ≡ c.self.inside.tally.routes = λ some. elim c.if-at-eq0-2.branch [ then-at-eq0-2 w ↦ absurd (omega (arith, some, at, w.if-at-eq0-2.true)) | else-at-eq0-2 w ↦ w.routes-is ] in
    let new : Tally = record {
      cost = c.self.inside.tally.cost + c.weight.result;
      load = c.self.inside.tally.load + c.demand-demand.result;
      rest = c.self.inside.tally.rest - c.demand-demand.result;
      inbound_sum = c.self.inside.tally.inbound_sum - c.least_in.result;
      first_customer = c.if-at-eq0.first_customer;
      unserved = c.self.inside.tally.unserved - 1;
      greatest = c.if-symbol-tally.greatest;
      routes = c.if-at-eq0-2.routes;
    } in
    subst (λ (v : PartialPlan). IsTally v.problem (v.word ++ c.args.symbol ∷ []) new) c.self.view_is
    (tally_at_customer c.self.inside.instance.now c.self.inside.word.items c.args.symbol c.least_in.result c.self.inside.tally new c.least_in.ensures.least refl c.self.invariant.0.problem c.self.invariant.0.prefix (omega (arith, c.if-symbol-eq0.false)) after c.self.invariant.0.now
    (omega (arith, weight)) (omega (arith, c.demand-demand.ensures.value)) (omega (arith, c.demand-demand.ensures.value)) starts continues refl greatest one_more stays)

pub returns-clause-place : goal.returns-clause-place
returns-clause-place c =
    let after = child_inside c.self.inside.instance.now c.self.inside.word.items c.args.symbol c.args.self.now c.self.view_is c.requires in
    subst (λ (v : PartialPlan). c.args.symbol < place_count v.problem) c.self.view_is (symbol_is_place c.self.inside.instance.now c.self.inside.word.items c.args.symbol c.self.invariant.0.problem after)

pub returns-clause-short : goal.returns-clause-short
returns-clause-short c =
    let after = child_inside c.self.inside.instance.now c.self.inside.word.items c.args.symbol c.args.self.now c.self.view_is c.requires in
    subst (λ (v : PartialPlan). length v.word + 3 ≤ 2 * place_count v.problem) c.self.view_is (room_left c.self.inside.instance.now c.self.inside.word.items c.args.symbol c.self.invariant.0.problem after)
