-- Ranges of plans within each other.
use Rattle.std.proofs.Common.{◌≡◌, ◌⊎◌, ℕ, ◌≤◌, ◌<◌, Option, Some, None, List, length, refl, sym, subst, arith, inl, inr}
use Rattle.std.specs.Option.{ForSome, IsSomeAnd}
use Rattle.std.proofs.lemmas.Bool.{cases_lt}
use Rattle.vrp_model.specs.Problem.{Problem}
use Rattle.vrp_model.specs.Route.{plan_cost}
use Rattle.vrp_routes.specs.Range.{IsInRange, IsPart}
use Rattle.vrp_routes.specs.Useful.{IsUsefulIn}
use Rattle.vrp_routes.specs.declared.plan_range.PlanRange.{PlanRange}

few_within : (fewer : Option ℕ) (count most : ℕ) → ForSome fewer (λ n. count ≤ n) → IsSomeAnd fewer (λ n. n ≤ most) → count ≤ most
few_within None count most few less = absurd less
few_within (Some n) count most few less = omega (arith, few n refl, less)

-- a plan in a part of a range is in the range
pub in_part : (p : Problem) (part range : PlanRange) (routes : List (List ℕ)) → IsPart part range → IsInRange p part routes → IsInRange p range routes
in_part p part range routes is inside = record {
  cheap = omega (arith, is.cheap, inside.cheap);
  many = omega (arith, is.many, inside.many);
  few = λ most some. few_within part.most_routes (length routes) most inside.few (is.few most some);
}

-- so many routes at most are at most so many
pub same_most : (most : Option ℕ) → ForSome most (λ n. IsSomeAnd most (λ fewer. fewer ≤ n))
same_most most n is = subst (λ (o : Option ℕ). IsSomeAnd o (λ fewer. fewer ≤ n)) (sym is) (omega arith)

-- a plan of a range has few routes, or more
pub branched : (p : Problem) (range few many : PlanRange) (fewer : ℕ) (routes : List (List ℕ))
    → few.limit ≡ range.limit → few.least_routes ≡ range.least_routes
    → ((count : ℕ) → count ≤ fewer → ForSome range.most_routes (λ most. count ≤ most) → ForSome few.most_routes (λ most. count ≤ most))
    → many.limit ≡ range.limit → many.most_routes ≡ range.most_routes
    → ((count : ℕ) → fewer < count → range.least_routes ≤ count → many.least_routes ≤ count)
    → IsInRange p range routes → IsInRange p few routes ⊎ IsInRange p many routes
branched p range few many fewer routes few_limit few_least few_most many_limit many_most many_least inside =
    elim (cases_lt fewer (length routes)) [
      | inl more ↦ inr (record {
        cheap = omega (arith, inside.cheap, many_limit);
        many = many_least (length routes) more inside.many;
        few = subst (λ (o : Option ℕ). ForSome o (λ most. length routes ≤ most)) (sym many_most) inside.few;
      })
      | inr within ↦ inl (record {
        cheap = omega (arith, inside.cheap, few_limit);
        many = omega (arith, inside.many, few_least);
        few = few_most (length routes) within inside.few;
      })
    ]

-- where a plan within a limit is in the range, so it is within a lower one
pub lowered : (p : Problem) (range : PlanRange) (limit : ℕ) (routes : List (List ℕ)) → IsInRange p range routes → plan_cost p routes ≤ limit
    → IsInRange p (record range { limit = limit }) routes
lowered p range limit routes inside cheap = record { cheap = cheap; many = inside.many; few = inside.few }

-- the plan of a useful route is in the range
pub plan_in_range : (p : Problem) (range : PlanRange) (stops : List ℕ) (useful : IsUsefulIn p range stops) → IsInRange p range useful.plan.routes
plan_in_range p range stops useful = record {
  cheap = subst (λ (n : ℕ). n ≤ range.limit) useful.canonical.plan_of.priced useful.cheap;
  many = useful.many;
  few = useful.few;
}

-- a route of the canonical plan is useful in each range that has this plan
pub useful_there : (p : Problem) (range other : PlanRange) (stops : List ℕ) (useful : IsUsefulIn p range stops) → IsInRange p other useful.plan.routes → IsUsefulIn p other stops
useful_there p range other stops useful inside = record {
  plan = useful.plan;
  canonical = useful.canonical;
  cheap = subst (λ (n : ℕ). n ≤ other.limit) (sym useful.canonical.plan_of.priced) inside.cheap;
  many = inside.many;
  few = inside.few;
  among = useful.among;
}
