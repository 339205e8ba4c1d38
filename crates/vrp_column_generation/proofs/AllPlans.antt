-- What the leaves have together: all plans, so the routes of all their pools are complete.
use Rattle.std.proofs.Common.{◌≡◌, ℕ, ◌≤◌, Some, None, List, refl, sym, subst, arith, inl, inr}
use Rattle.vrp_model.specs.Problem.{Problem}
use Rattle.vrp_model.specs.Route.{plan_cost}
use Rattle.vrp_priced_routes.specs.Arcs.{ArcsOf}
use Rattle.vrp_priced_routes.specs.Priced.{BoundsPlans, BoundsPlansIn}
use Rattle.vrp_routes.proofs.Ranges.{in_part, lowered, plan_in_range, useful_there}
use Rattle.vrp_routes.specs.Pool.{IsPool, IsPoolIn, RouteOf}
use Rattle.vrp_routes.specs.Range.{HaveAll, IsInRange, IsPart, plans_within}
use Rattle.vrp_routes.specs.declared.plan_range.PlanRange.{PlanRange}
use Rattle.vrp_column_generation.specs.Last.{HaveAllPlans}

-- a plan within a limit is in the range of all such plans
all_within : (p : Problem) (limit : ℕ) (routes : List (List ℕ)) → plan_cost p routes ≤ limit → IsInRange p (plans_within limit) routes
all_within p limit routes cheap = record { cheap = cheap; many = omega arith; few = λ most is. absurd (cc) }

pub bounds_all : (p : Problem) (limit bound : ℕ) → BoundsPlansIn p (plans_within limit) bound → BoundsPlans p limit bound
bounds_all p limit bound bounds routes lawful cheap = bounds routes lawful (all_within p limit routes cheap)

-- what bounds the plans of a range bounds those of a part
pub bounds_part : (p : Problem) (part range : PlanRange) (bound : ℕ) → IsPart part range → BoundsPlansIn p range bound → BoundsPlansIn p part bound
bounds_part p part range bound is bounds routes lawful inside = bounds routes lawful (in_part p part range routes is inside)

-- what bounds the plans of both leaves bounds all
pub bounds_both : (p : Problem) (range one other : PlanRange) (first second bound : ℕ) → HaveAll range one other → BoundsPlansIn p one first → BoundsPlansIn p other second
    → bound ≤ first → bound ≤ second → BoundsPlansIn p range bound
bounds_both p range one other first second bound all few many below also routes lawful inside =
    elim (all p routes inside) [
      | inl here ↦ omega (arith, few routes lawful here, below)
      | inr there ↦ omega (arith, many routes lawful there, also)
    ]

-- ---- last prices

pub one_leaf : (arcs : ArcsOf) → arcs.range ≡ plans_within arcs.range.limit → HaveAllPlans arcs.problem arcs.range.limit arcs None
one_leaf arcs whole = record {
  problem_is = refl;
  limit_is = refl;
  second_problem = λ other is. absurd (cc);
  second_limit = λ other is. absurd (cc);
  plans = λ p routes cheap. inl (subst (λ (r : PlanRange). IsInRange p r routes) (sym whole) (all_within p arcs.range.limit routes cheap));
}

pub two_leaves : (root few many : ArcsOf) → root.range ≡ plans_within root.range.limit → few.problem ≡ root.problem → many.problem ≡ root.problem
    → few.range.limit ≡ root.range.limit → many.range.limit ≡ root.range.limit → HaveAll root.range few.range many.range
    → HaveAllPlans few.problem few.range.limit few (Some many)
two_leaves root few many whole few_problem many_problem few_limit many_limit all = record {
  problem_is = refl;
  limit_is = refl;
  second_problem = λ other is. cc;
  second_limit = λ other is. cc;
  plans = λ p routes cheap.
      all p routes (subst (λ (r : PlanRange). IsInRange p r routes) (sym whole)
      (all_within p root.range.limit routes (subst (λ (n : ℕ). plan_cost p routes ≤ n) few_limit cheap)));
}

-- the range of a leaf with a lower limit
abbrev pub lower : PlanRange → ℕ → PlanRange
lower range limit = record range { limit = limit }

pub one_pool : (p : Problem) (most limit : ℕ) (first : ArcsOf) (pool : List RouteOf) → HaveAllPlans p most first None → limit ≤ most → IsPoolIn p (lower first.range limit) pool → IsPool p limit pool
one_pool p most limit first pool have le is = record {
  routes = is.routes;
  complete = λ stops useful.
      let inside = plan_in_range p (plans_within limit) stops useful in
      elim (have.plans p useful.plan.routes (omega (arith, inside.cheap, le))) [
        | inl here ↦ is.complete stops (useful_there p (plans_within limit) (lower first.range limit) stops useful (lowered p first.range limit useful.plan.routes here inside.cheap))
        | inr none ↦ absurd none
      ];
}

-- the leaves of last prices, with a lower limit, have all plans within it
pub leaves_within : (p : Problem) (most limit : ℕ) (first second : ArcsOf) → HaveAllPlans p most first (Some second) → limit ≤ most
    → HaveAll (plans_within limit) (lower first.range limit) (lower second.range limit)
leaves_within p most limit first second have le q routes inside =
    elim (have.plans q routes (omega (arith, inside.cheap, le))) [
      | inl here ↦ inl (lowered q first.range limit routes here inside.cheap)
      | inr there ↦ inr (lowered q second.range limit routes there inside.cheap)
    ]
