use Rattle.std.proofs.Common.{◌≡◌, ◌+◌, ◌-◌, IfNone, None, Option, ℕ, subst, arith}
use Rattle.vrp_routes.specs.Listing.{IsListing}
use Rattle.vrp_routes.specs.Pool.{IsPoolIn}
use Rattle.vrp_routes.specs.Setting.{setting_of}
use Rattle.vrp_routes.specs.declared.level.Limit.{Limit}
use Rattle.vrp_routes.proofs.listing.list_routes.Goals as goal

-- what is known where no limit was met
where_none : (met : Option Limit) (P : Type 0) → met ≡ None → IfNone met P → P
where_none met P is holds = subst (λ (o : Option Limit). IfNone o P) is holds

pub loop-level-init : goal.loop-level-init
loop-level-init g c = c.in_ok-listing.ensures

pub step-requires-clause-listing : goal.step-requires-clause-listing
step-requires-clause-listing g c = λ _ _. (c.loop-level._level - 1, c.loop-level.invariant)

pub loop-level-preserved : goal.loop-level-preserved
loop-level-preserved g c =
    let s = setting_of g.T.CompletionTest c.new-setting.result.test.now in
    let k = c.loop-level._level in
    let P = (n : ℕ) → IsListing s n c.loop-level.listing → IsListing s (n + 1) c.step.new.self in
    let on : P = where_none c.in_ok-limit.field-0 P c.in_default.is c.in_ok-limit.ensures in
    subst (λ n. IsListing s n c.step.new.self) (let same : k - 1 + 1 ≡ k + 1 - 1 = omega (arith, c.loop-level.auto._level) in same) (on (k - 1) c.loop-level.invariant)

pub into_pool-requires : goal.into_pool-requires
into_pool-requires g c =
    let s = setting_of g.T.CompletionTest c.new-setting.result.test.now in
    (s.problem, s.range, c.loop-level._level - 1 + 1, c.loop-level.invariant.routes)

pub returns : goal.returns
returns g c =
    let s = setting_of g.T.CompletionTest c.new-setting.result.test.now in
    subst (λ (t : g.row.T.Denot). IsPoolIn (g.T.CompletionTest.problem t) (g.T.CompletionTest.range t) c.into_pool.result) c.new-setting.ensures
    (c.into_pool.ensures s.problem s.range (c.loop-level._level - 1 + 1) c.loop-level.invariant.routes c.places-level-end.ensures.problem
    (omega (arith, c.loop-level-test.false, c.places-level-end.ensures.value, c.loop-level.auto._level)))
