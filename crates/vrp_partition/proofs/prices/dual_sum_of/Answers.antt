use Rattle.std.proofs.Common.{◌≡◌, ◌≤◌, ◌^◌, ℤ, pos, ◌+ℤ◌, get_or, arith, ap, ◌∙◌, to_z, of_z, unsigned_abs, w64}
use Rattle.std.proofs.lemmas.Int.{ints, to_z-of_z, fits_signed_from_abs}
use Rattle.vrp_partition.specs.Prices.{dual_sum}
use Rattle.vrp_partition.proofs.LowestBits.{dual_sum_none, dual_sum_small, NextPrice, next_price}
use Rattle.vrp_partition.proofs.prices.dual_sum_of.Goals as goal

fitting : (y : ℤ) → unsigned_abs y ≤ 2 ^ 61 → to_z w64 (of_z w64 y) ≡ y
fitting y small = to_z-of_z w64 y (fits_signed_from_abs w64 y (omega arith))

pub overflow_add-total : goal.overflow_add-total
overflow_add-total c =
    let price = get_or c.args.prices.now c.in-Some.customer (pos 0) in
    let next : NextPrice c.args.prices.now c.loop-customer.left c.in-Some.customer c.args.set (to_z w64 c.loop-customer.total-bits) = next_price c.args.prices.now c.loop-customer.left c.in-Some.customer c.args.set (to_z w64 c.loop-customer.total-bits) c.requires.len c.requires.moderate c.in-Some.ensures.first c.loop-customer.invariant in
    rw (c.from.ensures, fitting price (omega (arith, next.price))) (fits_signed_from_abs w64 (to_z w64 c.loop-customer.total-bits +ℤ price) (omega (arith, next.small)))

pub loop-customer-preserved : goal.loop-customer-preserved
loop-customer-preserved c =
    let price = get_or c.args.prices.now c.in-Some.customer (pos 0) in
    let next : NextPrice c.args.prices.now c.loop-customer.left c.in-Some.customer c.args.set (to_z w64 c.loop-customer.total-bits) = next_price c.args.prices.now c.loop-customer.left c.in-Some.customer c.args.set (to_z w64 c.loop-customer.total-bits) c.requires.len c.requires.moderate c.in-Some.ensures.first c.loop-customer.invariant in
    rw (c.from.ensures, c.take_first.ensures.rest, fitting price (omega (arith, next.price)), fitting (to_z w64 c.loop-customer.total-bits +ℤ price) next.small) next.next

pub returns-clause-value : goal.returns-clause-value
returns-clause-value c =
    let none = ap (dual_sum c.args.prices.now) c.in_default.ensures.none ∙ dual_sum_none c.args.prices.now in
    omega (arith, ints, none, c.loop-customer.invariant)

pub returns-clause-small : goal.returns-clause-small
returns-clause-small c =
    let none = ap (dual_sum c.args.prices.now) c.in_default.ensures.none ∙ dual_sum_none c.args.prices.now in
    let same : to_z w64 c.loop-customer.total-bits ≡ dual_sum c.args.prices.now c.args.set = omega (arith, ints, none, c.loop-customer.invariant) in
    rw same (omega (arith, dual_sum_small c.args.prices.now c.args.set (2 ^ 52) c.requires.moderate, c.requires.len))
