-- From the cheapest choice of the pool to the canonical plan.
use Rattle.std.proofs.Common.{◌≡◌, ℕ, ◌+◌, ◌≤◌, Option, Some, None, IfSome, Result, Ok, Err, IfOk, List, map, sym, ap, subst, ◌∙◌, arith}
use Rattle.vrp_canonical.specs.Ending.{IfBound}
use Rattle.vrp_canonical.specs.declared.canonical.RoutesOutcome.{RoutesOutcome}
use Rattle.vrp_canonical.specs.declared.canonical.RoutesOutcome.TheVariants.{Canonical, Unfinished}
use Rattle.vrp_canonical.specs.Ordering.{AreOrdered, route_of, stops_of}
use Rattle.vrp_canonical.specs.Reaching.{IsTask, plan_at}
use Rattle.vrp_model.specs.Fleet.{IsFleet}
use Rattle.vrp_canonical.specs.declared.ordered.ListedRoute.{ListedRoute}
use Rattle.vrp_canonical.specs.declared.residual.Residual.{Residual}
use Rattle.vrp_canonical.proofs.Answered.{bounded, cheapest_canonical}
use Rattle.vrp_canonical.proofs.Begun.{canonical_cheapest}
use Rattle.vrp_model.specs.Cheapest.{NoneCheaper}
use Rattle.vrp_model.specs.Order.{IsCanonical}
use Rattle.vrp_model.specs.Problem.{IsProblem, Problem, customers}
use Rattle.vrp_model.specs.Route.{IsPlanOf, PricedPlan, plan_cost}
use Rattle.vrp_model.specs.Word.{word_of}
use Rattle.vrp_model.proofs.CanonicalPlans.{canonical_exists, same_routes}
use Rattle.vrp_partition.specs.Choice.{IsCheapest, NoneBelow}
use Rattle.vrp_partition.specs.declared.route.Route.{Route}
use Rattle.vrp_model.specs.CustomerSet.{set_of}

-- a fact of what is there
pub told : {X : Type 0} (o : Option X) (x : X) (P : X → Type 0) → o ≡ Some x → IfSome o P → P x
told o x P is fact = subst (λ v. IfSome v P) is fact

-- what two facts give of what is there
pub both_told : {X : Type 0} (o : Option X) (P Q R : X → Type 0) → ((x : X) → P x → Q x → R x) → IfSome o P → IfSome o Q → IfSome o R
both_told None P Q R give p q = tt
both_told (Some x) P Q R give p q = give x p q

-- what the pass finds, of a task in the order of its routes' stops
abbrev pub GivesCanonical : List Route → Residual → List ℕ → Type 0
GivesCanonical pool whole places = (p : Problem) (limit : ℕ) (stops : List (List ℕ)) → IsTask p limit stops pool whole → IsCanonical p (plan_at stops places whole.most)

pub canonical_task : (p : Problem) (limit : ℕ) (narrowed ordered : List ListedRoute) (chosen : List Route) (unserved trucks found : ℕ)
    → IsProblem p → AreOrdered p limit narrowed → IsFleet p trucks → unserved ≡ set_of (customers p)
    → IsCheapest (map route_of narrowed) unserved trucks 0 (limit + 1) found chosen → found ≤ limit → AreOrdered p found ordered
    → IsTask p found (map stops_of ordered) (map route_of ordered) (record { unserved = unserved; trucks = trucks; most = found })
canonical_task p limit narrowed ordered chosen unserved trucks found problem are_narrowed fleet all cheapest within are =
    let (plan, canonical, cost) = cheapest_canonical p limit (map stops_of narrowed) (map route_of narrowed) chosen trucks (limit + 1) found problem are_narrowed.pool_of fleet within
    (subst (λ n. IsCheapest (map route_of narrowed) n trucks 0 (limit + 1) found chosen) all cheapest) (omega (arith, within)) in
    record {
      pool_of = are.pool_of;
      rising = are.rising;
      customers_are = all;
      fleet = fleet;
      plan = plan;
      canonical = canonical;
      cost_is = cost;
      within = omega arith;
    }

-- a feasible plan that costs no more than any is as cheap as the canonical one
pub task_as_cheap : (p : Problem) (ordered : List ListedRoute) (known : PricedPlan) (whole : Residual) → IsProblem p → AreOrdered p whole.most ordered → IsFleet p whole.trucks
    → whole.unserved ≡ set_of (customers p) → IsPlanOf p known → known.cost ≡ whole.most → NoneCheaper p known.cost
    → IsTask p whole.most (map stops_of ordered) (map route_of ordered) whole
task_as_cheap p ordered known whole problem are fleet all is_plan costs least =
    let (plan, canonical) = canonical_exists p known.routes problem is_plan.lawful in
    record {
      pool_of = are.pool_of;
      rising = are.rising;
      customers_are = all;
      fleet = fleet;
      plan = plan;
      canonical = canonical;
      cost_is = omega (arith, canonical_cheapest p plan known.routes canonical is_plan.lawful, is_plan.priced, least plan.routes canonical.plan_of.lawful, canonical.plan_of.priced, costs);
      within = omega arith;
    }

-- where no choice of the narrowed pool costs less than a bound of at most one more than the limit, no feasible plan does
pub narrowed_bound : (p : Problem) (limit : ℕ) (narrowed : List ListedRoute) (unserved trucks bound : ℕ)
    → IsProblem p → AreOrdered p limit narrowed → IsFleet p trucks → unserved ≡ set_of (customers p)
    → NoneBelow (map route_of narrowed) unserved trucks 0 bound → bound ≤ limit + 1 → NoneCheaper p bound
narrowed_bound p limit narrowed unserved trucks bound problem are_narrowed fleet all below within =
    bounded p limit (map stops_of narrowed) (map route_of narrowed) unserved trucks bound problem are_narrowed.pool_of fleet all below within

-- a feasible plan with the word of the canonical one is the canonical one
pub canonical_by_word : (p : Problem) (plan other : PricedPlan) → IsCanonical p plan → IsPlanOf p other → word_of other.routes ≡ word_of plan.routes → IsCanonical p other
canonical_by_word p plan other canonical lawful word =
    let routes = same_routes p plan.routes other.routes canonical.plan_of.lawful lawful.lawful (sym word) in
    let cost : plan.cost ≡ other.cost = canonical.plan_of.priced ∙ ap (plan_cost p) routes ∙ sym lawful.priced in
    let same : plan ≡ other = λ i. record { routes = routes i; cost = cost i } in
    subst (IsCanonical p) same canonical

-- what is known of an unfinished search's bound, from what is known more closely
bound_told : (found : RoutesOutcome) (P Q : ℕ → Type 0) → ((bound : ℕ) → P bound → Q bound) → IfBound P found → IfBound Q found
bound_told (Canonical plan) P Q give is = tt
bound_told (Unfinished word lower_bound) P Q give is = give lower_bound is

-- so it is where the search was not refused memory
pub bound_follows : {E : Type 0} (found : Result RoutesOutcome E) (P Q : ℕ → Type 0) → ((bound : ℕ) → P bound → Q bound) → IfOk found (IfBound P) → IfOk found (IfBound Q)
bound_follows (Ok found) P Q give is = bound_told found P Q give is
bound_follows (Err refusal) P Q give is = tt
