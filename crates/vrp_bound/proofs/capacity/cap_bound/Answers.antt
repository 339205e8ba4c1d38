use Rattle.std.proofs.Common.{◌≤◌, arith}
use Rattle.vrp_bound.proofs.Trucks.{all_carried, returns_fit}
use Rattle.vrp_bound.proofs.capacity.cap_bound.Goals.{then-at-eq0-2, else-at-eq0-2}
use Rattle.vrp_bound.proofs.capacity.cap_bound.Goals as goal

pub trucks_needed-trucks-requires : goal.trucks_needed-trucks-requires
trucks_needed-trucks-requires c = λ some.
    let carried = all_carried c.args.instance.now c.least_home-home.ensures.problem in
    omega (arith, carried, c.requires.rest, c.capacity-capacity.ensures.value, c.saturating_sub.ensures, some)

pub overflow_add-returns : goal.overflow_add-returns
overflow_add-returns c =
    let carried = all_carried c.args.instance.now c.least_home-home.ensures.problem in
    let few : c.trucks_needed-trucks.result ≤ 1199 = c.trucks_needed-trucks.ensures.least 1199 (omega (arith, carried, c.requires.rest, c.capacity-capacity.ensures.value, c.saturating_sub.ensures)) in
    omega (arith, few)

pub overflow_mul-result : goal.overflow_mul-result
overflow_mul-result c =
    let carried = all_carried c.args.instance.now c.least_home-home.ensures.problem in
    let few : c.trucks_needed-trucks.result ≤ 1199 = c.trucks_needed-trucks.ensures.least 1199 (omega (arith, carried, c.requires.rest, c.capacity-capacity.ensures.value, c.saturating_sub.ensures)) in
    let returns : c.if-at-eq0-2.returns ≤ 1200 = elim c.if-at-eq0-2.branch [ then-at-eq0-2 w ↦ omega (arith, w.returns-is, few) | else-at-eq0-2 w ↦ omega (arith, w.returns-is, few) ] in
    omega (arith, returns_fit c.if-at-eq0-2.returns c.least_home-home.result returns c.least_home-home.ensures.small)

pub overflow_add-result : goal.overflow_add-result
overflow_add-result c =
    let carried = all_carried c.args.instance.now c.least_home-home.ensures.problem in
    let few : c.trucks_needed-trucks.result ≤ 1199 = c.trucks_needed-trucks.ensures.least 1199 (omega (arith, carried, c.requires.rest, c.capacity-capacity.ensures.value, c.saturating_sub.ensures)) in
    let returns : c.if-at-eq0-2.returns ≤ 1200 = elim c.if-at-eq0-2.branch [ then-at-eq0-2 w ↦ omega (arith, w.returns-is, few) | else-at-eq0-2 w ↦ omega (arith, w.returns-is, few) ] in
    omega (arith, returns_fit c.if-at-eq0-2.returns c.least_home-home.result returns c.least_home-home.ensures.small, c.requires.inbound_sum)

pub returns-clause-small : goal.returns-clause-small
returns-clause-small c =
    let carried = all_carried c.args.instance.now c.least_home-home.ensures.problem in
    let few : c.trucks_needed-trucks.result ≤ 1199 = c.trucks_needed-trucks.ensures.least 1199 (omega (arith, carried, c.requires.rest, c.capacity-capacity.ensures.value, c.saturating_sub.ensures)) in
    let returns : c.if-at-eq0-2.returns ≤ 1200 = elim c.if-at-eq0-2.branch [ then-at-eq0-2 w ↦ omega (arith, w.returns-is, few) | else-at-eq0-2 w ↦ omega (arith, w.returns-is, few) ] in
    omega (arith, returns_fit c.if-at-eq0-2.returns c.least_home-home.result returns c.least_home-home.ensures.small, c.requires.inbound_sum)
