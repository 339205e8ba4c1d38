-- Walks and tours, taken apart into a first part and what is behind it.
use Rattle.std.proofs.Common.{◌≡◌, ◌≢◌, ℕ, ◌+◌, ◌-◌, ◌*◌, ◌<◌, ◌≤◌, List, [], ◌∷◌, length, get_or, sym, ◌∙◌, ap, refl, subst, arith}
use Rattle.std.specs.List.{All, Contains}
use Rattle.std.proofs.lemmas.List.{get_or_default}
use Rattle.std.proofs.lemmas.List.Elements.{All-cons, All-contains, All-tail, Contains-get_or}
use Rattle.std.proofs.lemmas.List.Sums.{sum_by-cons}
use Rattle.vrp_model.specs.Problem.{IsProblem, Problem, demand_of, place_count, weight_of}
use Rattle.vrp_model.specs.Route.{load_of}
use Rattle.vrp_bound.specs.Inner.CompletionCells.{HasWalk, IsLeastCell}
use Rattle.vrp_bound.specs.Inner.Scope.{IsScope}
use Rattle.vrp_bound.specs.NgWalks.{IsNgWalk, nothing_near}
use Rattle.vrp_bound.specs.Walk.{walk_cost}
use Rattle.vrp_bound.proofs.NothingNear.{next_remembered}
use Rattle.vrp_bound.proofs.LeastOfCosts.{IsCostBelow, IsSum, least_same, least_one, least_sum}

-- what a stop and those behind it demand
pub load_first : (p : Problem) (stop : ℕ) (stops : List ℕ) → load_of p (stop ∷ stops) ≡ demand_of p stop + load_of p stops
load_first p stop stops = sum_by-cons (demand_of p) stop stops

-- the weight of a step is small
pub small_step : (p : Problem) (from to : ℕ) → IsProblem p → weight_of p from to ≤ 1000000000
small_step p from to problem = problem.small_weights (from * place_count p + to)

-- a walk has at most as many stops as it takes up, so it costs little
pub small_walk : (p : Problem) (among : List ℕ) (at : ℕ) (stops : List ℕ) → IsScope p among → All (Contains among) stops → walk_cost p at stops ≤ 1000000000 * load_of p stops + 1000000000
small_walk p among at [] scope within = omega (arith, small_step p at 0 scope.problem)
small_walk p among at (stop ∷ stops) scope within =
    let behind = small_walk p among stop stops scope (All-tail (Contains among) stop stops within) in
    let some : 1 ≤ demand_of p stop = All-contains (λ c. 1 ≤ demand_of p c) among stop scope.demands (within 0 stop (omega arith)) in
    omega (arith, behind, some, load_first p stop stops, small_step p at stop scope.problem)

-- the empty walk is the only one that takes up nothing
pub no_load_no_stop : (p : Problem) (among : List ℕ) (stops : List ℕ) → IsScope p among → All (Contains among) stops → load_of p stops ≡ 0 → stops ≡ []
no_load_no_stop p among [] scope within none = refl
no_load_no_stop p among (stop ∷ stops) scope within none =
    let some : 1 ≤ demand_of p stop = All-contains (λ c. 1 ≤ demand_of p c) among stop scope.demands (within 0 stop (omega arith)) in
    absurd (omega (arith, some, none, load_first p stop stops))

-- the walk home at once
pub least_at_once : (p : Problem) (near : ℕ → List ℕ) (among : List ℕ) (at : ℕ) → IsScope p among → IsLeastCell (HasWalk p near among at 0) (weight_of p at 0)
least_at_once p near among at scope =
    let home : walk_cost p at [] ≡ weight_of p at 0 = omega arith in
    record {
      met = λ small. record {
        stops = [];
        walks = record { within = λ k d lt. absurd (omega (arith, lt)); fresh = tt };
        loaded = refl;
        costs = home;
      };
      least = λ cost has.
          let none = no_load_no_stop p among has.stops scope has.walks.within has.loaded in
          omega (arith, has.costs, home, ap (walk_cost p at) none);
    }

-- a step to the k-th customer, and the walk from there
pub record IsStep (p : Problem) (near : ℕ → List ℕ) (among : List ℕ) (at load k cost : ℕ) : Type 0 where
  pub inside : k < length among
  pub differs : get_or among k 0 ≢ at
  pub fits : demand_of p (get_or among k 0) ≤ load
  pub behind : IsSum (λ first. first ≡ weight_of p at (get_or among k 0)) (HasWalk p near among (get_or among k 0) (load - demand_of p (get_or among k 0))) cost

pub least_step : (p : Problem) (near : ℕ → List ℕ) (among : List ℕ) (at load k cell : ℕ) → k < length among → get_or among k 0 ≢ at → demand_of p (get_or among k 0) ≤ load → IsLeastCell (HasWalk p near among (get_or among k 0) (load - demand_of p (get_or among k 0))) cell → IsLeastCell (IsStep p near among at load k) (weight_of p at (get_or among k 0) + cell)
least_step p near among at load k cell inside differs fits least =
    let c = get_or among k 0 in
    let w = weight_of p at c in
    let IsFirst : ℕ → Type 0 = λ first. first ≡ w in
    least_same (IsSum IsFirst (HasWalk p near among c (load - demand_of p c))) (IsStep p near among at load k) (w + cell)
    (λ cost behind. record { inside = inside; differs = differs; fits = fits; behind = behind })
    (λ cost step. step.behind)
    (least_sum IsFirst (HasWalk p near among c (load - demand_of p c)) w cell (least_one w) least)

step_of_walk : (p : Problem) (near : ℕ → List ℕ) (among : List ℕ) (at load cost : ℕ) (stops : List ℕ) → 0 < load → IsNgWalk p near among at stops → load_of p stops ≡ load → walk_cost p at stops ≡ cost → IsCostBelow (IsStep p near among at load) (length among) cost
step_of_walk p near among at load cost [] some walk loaded costs = absurd (omega (arith, some, loaded))
step_of_walk p near among at load cost (stop ∷ stops) some walk loaded costs =
    let (k, lt, is) = walk.within 0 stop (omega arith) in
    let here : get_or among k 0 ≡ stop = get_or_default among k 0 stop lt ∙ is in
    let first = load_first p stop stops in
    let demand : demand_of p (get_or among k 0) ≡ demand_of p stop = ap (demand_of p) here in
    let behind : HasWalk p near among stop (load - demand_of p stop) (walk_cost p stop stops) = record {
      stops = stops;
      walks = record { within = All-tail (Contains among) stop stops walk.within; fresh = walk.fresh.1 };
      loaded = omega (arith, first, loaded);
      costs = refl;
    } in
    record {
      arc = k;
      below = lt;
      has = record {
        inside = lt;
        differs = λ same. walk.fresh.0 (0, omega arith, sym here ∙ same);
        fits = omega (arith, demand, first, loaded);
        behind = record {
          first = weight_of p at (get_or among k 0);
          second = walk_cost p stop stops;
          has_first = refl;
          has_second = subst (λ c. HasWalk p near among c (load - demand_of p c) (walk_cost p stop stops)) (sym here) behind;
          whole = sym costs ∙ ap (λ c. weight_of p at c + walk_cost p stop stops) (sym here);
        };
      };
    }

-- a walk that takes up something is a first step and a walk from there
pub walk_is_step : (p : Problem) (near : ℕ → List ℕ) (among : List ℕ) (at load cost : ℕ) → 0 < load → HasWalk p near among at load cost → IsCostBelow (IsStep p near among at load) (length among) cost
walk_is_step p near among at load cost some has = step_of_walk p near among at load cost has.stops some has.walks has.loaded has.costs

-- without ng-sets each step and walk from there is a walk
pub step_is_walk : (p : Problem) (among : List ℕ) (at load cost : ℕ) → IsCostBelow (IsStep p nothing_near among at load) (length among) cost → HasWalk p nothing_near among at load cost
step_is_walk p among at load cost below =
    let step = below.has in
    let c = get_or among below.arc 0 in
    let behind = step.behind.has_second in
    let contains : Contains among c = Contains-get_or among below.arc 0 below.below in
    record {
      stops = c ∷ behind.stops;
      walks = record { within = All-cons (Contains among) c behind.stops contains behind.walks.within; fresh = (λ has. step.differs (next_remembered c at behind.stops has), behind.walks.fresh) };
      loaded = omega (arith, load_first p c behind.stops, behind.loaded, step.fits);
      costs = omega (arith, behind.costs, step.behind.whole, step.behind.has_first);
    }
