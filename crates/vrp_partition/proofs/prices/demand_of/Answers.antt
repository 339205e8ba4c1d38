use Rattle.std.proofs.Common.{◌≡◌, ◌≤◌, ◌^◌, All, ◌∙◌, ap, arith, get_or}
use Rattle.std.proofs.lemmas.List.Elements.{All-from_get_or}
use Rattle.vrp_partition.specs.Prices.{load_of}
use Rattle.vrp_partition.proofs.LowestBits.{load_of_small, load_of_step}
use Rattle.vrp_partition.proofs.NeededVisits.{load_of_none}
use Rattle.vrp_partition.proofs.prices.demand_of.Goals as goal

pub overflow_add-total : goal.overflow_add-total
overflow_add-total c =
    let small : All (λ w. w ≤ 2 ^ 32) c.args.demands.now = All-from_get_or (λ w. w ≤ 2 ^ 32) c.args.demands.now 0 (λ i lt. omega (arith, c.type_inv.demands i)) in
    let step = load_of_step c.args.demands.now c.loop-customer.left c.in-Some.customer c.requires c.in-Some.ensures.first in
    let here : c.from-total.result ≡ get_or c.args.demands.now c.in-Some.customer 0 = c.from-total.ensures ∙ ap (λ i. get_or c.args.demands.now i 0) c.from.ensures in
    omega (arith, load_of_small c.args.demands.now c.args.set (2 ^ 32) small, c.requires, step, c.loop-customer.invariant, here)

pub loop-customer-preserved : goal.loop-customer-preserved
loop-customer-preserved c =
    let step = load_of_step c.args.demands.now c.loop-customer.left c.in-Some.customer c.requires c.in-Some.ensures.first in
    let here : c.from-total.result ≡ get_or c.args.demands.now c.in-Some.customer 0 = c.from-total.ensures ∙ ap (λ i. get_or c.args.demands.now i 0) c.from.ensures in
    omega (arith, step, here, ap (load_of c.args.demands.now) c.take_first.ensures.rest, c.loop-customer.invariant)

pub returns-clause-value : goal.returns-clause-value
returns-clause-value c =
    let none = ap (load_of c.args.demands.now) c.in_default.ensures.none ∙ load_of_none c.args.demands.now in
    omega (arith, none, c.loop-customer.invariant)

pub returns-clause-small : goal.returns-clause-small
returns-clause-small c =
    let small : All (λ w. w ≤ 2 ^ 32) c.args.demands.now = All-from_get_or (λ w. w ≤ 2 ^ 32) c.args.demands.now 0 (λ i lt. omega (arith, c.type_inv.demands i)) in
    omega (arith, c.loop-customer.invariant, load_of_small c.args.demands.now c.args.set (2 ^ 32) small, c.requires)
