-- The least cost of a choice answers what is asked of a pool.
use Rattle.std.proofs.Common.{◌≡◌, ℕ, ◌+◌, ◌<◌, ◌≤◌, List, [], refl, subst, arith}
use Rattle.std.proofs.lemmas.List.Elements.{All-nil}
use Rattle.vrp_partition.specs.Choice.{IsCheapest, NoneBelow}
use Rattle.vrp_canonical.specs.Reaching.{IsPoolOf, IsRoute, Reaches}
use Rattle.vrp_model.specs.Fleet.{IsFleet}
use Rattle.vrp_canonical.proofs.Begun.{all_unserved, canonical_cheapest, in_pool, least_first}
use Rattle.vrp_canonical.proofs.PlanChoices.{continues_reached}
use Rattle.vrp_model.specs.Cheapest.{NoneCheaper}
use Rattle.vrp_model.specs.Order.{IsCanonical}
use Rattle.vrp_model.specs.Problem.{IsProblem, Problem, customers}
use Rattle.vrp_model.specs.Route.{IsLawful, PricedPlan, plan_cost}
use Rattle.vrp_model.proofs.CanonicalPlans.{canonical_exists}
use Rattle.vrp_partition.specs.declared.route.Route.{Route}
use Rattle.vrp_model.specs.CustomerSet.{set_of as stops_set}

pub cheapest_yes : (pool routes : List Route) (unserved trucks incumbent found most : ℕ) → IsCheapest pool unserved trucks 0 incumbent found routes → incumbent ≤ most + 1 → found < incumbent
    → Reaches pool unserved trucks most
cheapest_yes pool routes unserved trucks incumbent found most answer room below =
    let (choice, cost) = answer.attained below in
    record { parts = routes; choice = choice; cheap = omega (arith, cost, room, below) }

pub cheapest_no : (pool routes : List Route) (unserved trucks incumbent found most : ℕ) → IsCheapest pool unserved trucks 0 incumbent found routes → most + 1 ≤ incumbent → incumbent ≤ found
    → Reaches pool unserved trucks most → ⊥
cheapest_no pool routes unserved trucks incumbent found most answer room none reached =
    omega (arith, answer.least reached.parts reached.choice (omega arith), reached.cheap, room, none)

-- ---- of the whole problem

pub cheapest_canonical : (p : Problem) (limit : ℕ) (stops : List (List ℕ)) (pool routes : List Route) (trucks incumbent found : ℕ)
    → IsProblem p → IsPoolOf p limit stops pool → IsFleet p trucks → found ≤ limit
    → IsCheapest pool (stops_set (customers p)) trucks 0 incumbent found routes → found < incumbent
    → (plan : PricedPlan) × IsCanonical p plan × (plan.cost ≡ found)
cheapest_canonical p limit stops pool routes trucks incumbent found problem pool_of fleet within answer below =
    let (choice, cost) = answer.attained below in
    least_first p limit stops pool trucks found problem pool_of fleet within
    (record { parts = routes; choice = choice; cheap = omega (arith, cost) })
    (λ other reached. omega (arith, answer.least reached.parts reached.choice (omega arith), reached.cheap))

-- where no choice costs less than a bound, no feasible plan within the limit does
none_below : (p : Problem) (limit : ℕ) (stops : List (List ℕ)) (pool : List Route) (trucks bound : ℕ) (others : List (List ℕ))
    → IsProblem p → IsPoolOf p limit stops pool → IsFleet p trucks → NoneBelow pool (stops_set (customers p)) trucks 0 bound
    → IsLawful p others → plan_cost p others ≤ limit → bound ≤ plan_cost p others
none_below p limit stops pool trucks bound others problem pool_of fleet below lawful cheap =
    let free : plan_cost p [] ≡ 0 = refl in
    let (plan, canonical) = canonical_exists p others problem lawful in
    let most = canonical_cheapest p plan others canonical lawful in
    let known = in_pool p limit stops pool plan pool_of canonical (omega (arith, most, cheap)) in
    let reached = continues_reached p limit stops pool trucks [] plan.routes (stops_set (customers p)) trucks plan.cost plan.cost pool_of fleet (All-nil (IsRoute p)) (all_unserved p) (omega arith) (omega (arith, free)) canonical.plan_of.lawful known (omega (arith, canonical.plan_of.priced)) in
    omega (arith, below reached.parts reached.choice (omega arith), reached.cheap, most)

pub none_cheap : (p : Problem) (limit : ℕ) (stops : List (List ℕ)) (pool routes : List Route) (trucks incumbent : ℕ) (others : List (List ℕ))
    → IsProblem p → IsPoolOf p limit stops pool → IsFleet p trucks
    → IsCheapest pool (stops_set (customers p)) trucks 0 incumbent incumbent routes
    → IsLawful p others → plan_cost p others ≤ limit → incumbent ≤ plan_cost p others
none_cheap p limit stops pool routes trucks incumbent others problem pool_of fleet answer lawful cheap =
    none_below p limit stops pool trucks incumbent others problem pool_of fleet answer.least lawful cheap

-- and no other does, where the bound is at most one more than the limit
pub bounded : (p : Problem) (limit : ℕ) (stops : List (List ℕ)) (pool : List Route) (unserved trucks bound : ℕ)
    → IsProblem p → IsPoolOf p limit stops pool → IsFleet p trucks → unserved ≡ stops_set (customers p)
    → NoneBelow pool unserved trucks 0 bound → bound ≤ limit + 1 → NoneCheaper p bound
bounded p limit stops pool unserved trucks bound problem pool_of fleet all below within routes lawful =
    let none = subst (λ n. NoneBelow pool n trucks 0 bound) all below in
    let never : plan_cost p routes < bound → ⊥ =
    λ less. omega (arith, less, none_below p limit stops pool trucks bound routes problem pool_of fleet none lawful (omega (arith, less, within))) in
    omega (arith, never)
