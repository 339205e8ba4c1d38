use Rattle.std.proofs.Common.{◌≡◌, ◌<◌, get_or, length, sym, subst, ◌∙◌, arith}
use Rattle.std.specs.List.{All, Contains}
use Rattle.vrp_routes.specs.ClosedLevel.{route_with}
use Rattle.vrp_routes.specs.Pool.{no_route}
use Rattle.vrp_routes.proofs.PoolSteps.{joins_all, joins_known, joins_more, joins_none, same_route}
use Rattle.vrp_routes.proofs.pool.RoutePool.add.Goals as goal

pub loop-at-init : goal.loop-at-init
loop-at-init c = joins_none c.args.self.now c.args.other.now

pub loop-at-preserved-then-branch : goal.loop-at-preserved-then-branch
loop-at-preserved-then-branch c =
    let other = c.args.other.now in
    let at = c.loop-at.at in
    let lt : at < length other = omega arith in
    let stops = c.deref.result.now in
    let route = c.closed-route.result in
    let is : get_or other at no_route ≡ route_with stops route =
    same_route (get_or other at no_route) stops route (sym c.in_ok-stops.ensures ∙ sym c.deref.ensures.value) (sym c.closed-route.ensures.set) (sym c.closed-route.ensures.load) (sym c.closed-route.ensures.cost) in
    joins_known c.args.self.now other at c.loop-at.self (route_with stops route) lt is c.loop-at.invariant (c.in_ok-has.ensures c.if-branch.true)

pub loop-at-preserved : goal.loop-at-preserved
loop-at-preserved c =
    let other = c.args.other.now in
    let at = c.loop-at.at in
    let lt : at < length other = omega arith in
    let stops = c.deref-in-loop-at.result.now in
    let route = c.closed-route.result in
    let is : get_or other at no_route ≡ route_with stops route =
    same_route (get_or other at no_route) stops route (sym c.in_ok-stops.ensures ∙ sym c.deref-in-loop-at.ensures.value) (sym c.closed-route.ensures.set) (sym c.closed-route.ensures.load) (sym c.closed-route.ensures.cost) in
    joins_more c.args.self.now other at c.loop-at.self c.push.new.self (route_with stops route) lt is c.loop-at.invariant (c.in_ok-push.ensures.added c.if-not-branch.false)

pub returns-then-not-branch-clause-among : goal.returns-then-not-branch-clause-among
returns-then-not-branch-clause-among c =
    subst (All (Contains _)) (sym (c.in_ok-push.ensures.same c.if-not-branch.true)) c.loop-at.invariant.among

pub returns-clause-among : goal.returns-clause-among
returns-clause-among c = c.loop-at.invariant.among

pub returns-clause-all : goal.returns-clause-all
returns-clause-all c = λ yes. joins_all c.args.self.now c.args.other.now c.loop-at.at c.loop-at.self (omega arith) c.loop-at.invariant
