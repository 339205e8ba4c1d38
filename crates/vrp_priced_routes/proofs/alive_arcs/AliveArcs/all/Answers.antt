use Rattle.std.proofs.Common.{◌∙◌, ◌<◌, ◌≤◌, ◌+◌, ◌^◌, ℕ, List, get_or, ap, sym, subst, arith, bit_or}
use Rattle.std.specs.Int.{bit_at}
use Rattle.std.proofs.lemmas.List.{get_or-replicate}
use Rattle.vrp_model.specs.declared.limits.TheConstants.{NO_COST}
use Rattle.vrp_routes.specs.declared.plan_range.PlanRange.{PlanRange}
use Rattle.vrp_priced_routes.proofs.AllArcs.{all_hold, in_all}
use Rattle.vrp_priced_routes.proofs.alive_arcs.AliveArcs.all.Goals as goal

pub returns-clause-all : goal.returns-clause-all
returns-clause-all c = λ from to f t.
    let p = c.args.instance.now in
    let items = c.in_ok-vec.ensures.items_if_clones_equal (λ y same. same) in
    let lt : from < c.from-places.result + 1 = omega (arith, f, c.from-places.ensures, c.customers.ensures.value) in
    ap (λ n. bit_at n to) (ap (λ (xs : List ℕ). get_or xs from 0) items ∙ get_or-replicate (c.from-places.result + 1) from c.with-all.result 0 lt)
    ∙ in_all p c.with-all.result to (c.with-all.ensures ∙ ap (λ n. bit_or n (2 ^ 0)) c.all_customers.ensures.value) t

pub invariant_of-result : goal.invariant_of-result
invariant_of-result c =
    let p = c.args.instance.now in
    let items = c.in_ok-vec.ensures.items_if_clones_equal (λ y same. same) in
    all_hold p c.within.result c.in_ok-vec.field-0.items c.all_customers.ensures.problem c.requires.few
    (subst (λ (r : PlanRange). r.limit ≤ NO_COST) (sym c.within.ensures) c.requires.limit)
    (omega (arith, c.in_ok-vec.ensures.len, c.from-places.ensures, c.customers.ensures.value))
    (λ from to f t.
    let lt : from < c.from-places.result + 1 = omega (arith, f, c.from-places.ensures, c.customers.ensures.value) in
    ap (λ n. bit_at n to) (ap (λ (xs : List ℕ). get_or xs from 0) items ∙ get_or-replicate (c.from-places.result + 1) from c.with-all.result 0 lt)
    ∙ in_all p c.with-all.result to (c.with-all.ensures ∙ ap (λ n. bit_or n (2 ^ 0)) c.all_customers.ensures.value) t)
