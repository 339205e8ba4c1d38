-- Ng-walks, taken apart into a first step and the walk from there.
use Rattle.std.proofs.Common.{◌≡◌, ℕ, ◌+◌, ◌-◌, ◌^◌, ◌<◌, ◌≤◌, false, inl, inr, List, [], ◌∷◌, length, get_or, refl, sym, ap, subst, ◌∙◌, arith}
use Rattle.std.specs.List.{Contains}
use Rattle.std.proofs.lemmas.Bool.{both_ways, cases_Bool, cases_lt, false_from_ne_true}
use Rattle.std.proofs.lemmas.List.{get_or_default}
use Rattle.std.proofs.lemmas.List.Elements.{All-cons, All-tail, Contains-get_or}
use Rattle.vrp_model.specs.Problem.{Problem, demand_of, weight_of}
use Rattle.vrp_model.specs.Route.{load_of}
use Rattle.vrp_model.specs.Word.{stands_in}
use Rattle.vrp_bound.specs.Inner.CompletionCells.{IsLeastCell, mark}
use Rattle.vrp_bound.specs.Inner.Scope.{IsScope}
use Rattle.vrp_bound.specs.Walk.{walk_cost}
use Rattle.vrp_bound.proofs.FirstStep.{load_first, no_load_no_stop}
use Rattle.vrp_bound.proofs.LeastOfCosts.{IsCostBelow, IsSum, least_none, least_same, least_skipped}
use Rattle.vrp_bound.specs.Inner.NgCells.{ArePulled, HasNgWalk}
use Rattle.vrp_model.specs.NgSets.{bits_of, ng_set_before, ng_set_of, recalls}
use Rattle.vrp_bound.specs.NgWalks.{IsNgWalk}
use Rattle.vrp_model.specs.NgWalks.{remembered}
use Rattle.vrp_model.proofs.Recalled.{contained_stands, few_bits, is_recalled, ng_set_longer, no_bits, stands_contained}

-- ---- walks that take up nothing

nothing_stands : (near : ℕ → List ℕ) (c : ℕ) → stands_in (remembered near []) c ≡ false
nothing_stands near c = refl

empty_ng_set : (near : ℕ → List ℕ) (at : ℕ) → ng_set_of near at [] ≡ 0
empty_ng_set near at = no_bits (stands_in (remembered near [])) (near at) (nothing_stands near)

-- the walk home at once
pub least_at_once : (p : Problem) (near : ℕ → List ℕ) (among : List ℕ) (at : ℕ) → IsScope p among → IsLeastCell (HasNgWalk p near among at 0 0) (weight_of p at 0)
least_at_once p near among at scope =
    let home : walk_cost p at [] ≡ weight_of p at 0 = omega arith in
    record {
      met = λ small. record {
        stops = [];
        walks = record { within = λ k d lt. absurd (omega (arith, lt)); fresh = tt };
        loaded = refl;
        remembers = empty_ng_set near at;
        costs = home;
      };
      least = λ cost has.
          let none = no_load_no_stop p among has.stops scope has.walks.within has.loaded in
          omega (arith, has.costs, home, ap (walk_cost p at) none);
    }

-- it remembers nothing
pub none_at_once : (p : Problem) (near : ℕ → List ℕ) (among : List ℕ) (at ng_set : ℕ) → IsScope p among → 0 < ng_set → IsLeastCell (HasNgWalk p near among at 0 ng_set) mark
none_at_once p near among at ng_set scope some = record {
  met = λ small. absurd (omega (arith, small));
  least = λ cost has.
      let none = no_load_no_stop p among has.stops scope has.walks.within has.loaded in
      absurd (omega (arith, some, has.remembers, ap (ng_set_of near at) none, empty_ng_set near at));
}

-- ---- a first step

-- a step to the k-th customer, and the walk from there: the place isn't remembered, and then has this ng-set
pub record IsNgStep (p : Problem) (near : ℕ → List ℕ) (among : List ℕ) (at load ng_set k cost : ℕ) : Type 0 where
  pub inside : k < length among
  pub fits : demand_of p (get_or among k 0) ≤ load
  pub mask : ℕ
  pub fresh : recalls (near (get_or among k 0)) (get_or among k 0) mask at ≡ false
  pub becomes : bits_of (recalls (near (get_or among k 0)) (get_or among k 0) mask) (near at) ≡ ng_set
  pub behind : IsSum (λ first. first ≡ weight_of p at (get_or among k 0)) (HasNgWalk p near among (get_or among k 0) (load - demand_of p (get_or among k 0)) mask) cost

-- the same of a customer by its place
record IsNgStepTo (p : Problem) (near : ℕ → List ℕ) (among : List ℕ) (at load ng_set cost stop : ℕ) : Type 0 where
  fits : demand_of p stop ≤ load
  mask : ℕ
  fresh : recalls (near stop) stop mask at ≡ false
  becomes : bits_of (recalls (near stop) stop mask) (near at) ≡ ng_set
  behind : IsSum (λ first. first ≡ weight_of p at stop) (HasNgWalk p near among stop (load - demand_of p stop) mask) cost

step_of_walk : (p : Problem) (near : ℕ → List ℕ) (among : List ℕ) (at load ng_set cost : ℕ) (stops : List ℕ) → 0 < load → IsNgWalk p near among at stops → load_of p stops ≡ load → ng_set_of near at stops ≡ ng_set → walk_cost p at stops ≡ cost → IsCostBelow (IsNgStep p near among at load ng_set) (length among) cost
step_of_walk p near among at load ng_set cost [] some walk loaded remembers costs = absurd (omega (arith, some, loaded))
step_of_walk p near among at load ng_set cost (stop ∷ stops) some walk loaded remembers costs =
    let (k, lt, is) = walk.within 0 stop (omega arith) in
    let here : get_or among k 0 ≡ stop = get_or_default among k 0 stop lt ∙ is in
    let first = load_first p stop stops in
    let not_there : stands_in (remembered near (stop ∷ stops)) at ≡ false = false_from_ne_true (stands_in (remembered near (stop ∷ stops)) at) (λ stands. walk.fresh.0 (stands_contained (remembered near (stop ∷ stops)) at stands)) in
    let behind : HasNgWalk p near among stop (load - demand_of p stop) (ng_set_of near stop stops) (walk_cost p stop stops) = record {
      stops = stops;
      walks = record { within = All-tail (Contains among) stop stops walk.within; fresh = walk.fresh.1 };
      loaded = omega (arith, first, loaded);
      remembers = refl;
      costs = refl;
    } in
    let step : IsNgStepTo p near among at load ng_set cost stop = record {
      fits = omega (arith, first, loaded);
      mask = ng_set_of near stop stops;
      fresh = sym (is_recalled near stop stops at) ∙ not_there;
      becomes = sym (ng_set_longer near at stop stops) ∙ remembers;
      behind = record {
        first = weight_of p at stop;
        second = walk_cost p stop stops;
        has_first = refl;
        has_second = behind;
        whole = sym costs;
      };
    } in
    let moved = subst (IsNgStepTo p near among at load ng_set cost) (sym here) step in
    record {
      arc = k;
      below = lt;
      has = record { inside = lt; fits = moved.fits; mask = moved.mask; fresh = moved.fresh; becomes = moved.becomes; behind = moved.behind };
    }

-- a walk that takes up something is a first step and a walk from there
pub walk_is_step : (p : Problem) (near : ℕ → List ℕ) (among : List ℕ) (at load ng_set cost : ℕ) → 0 < load → HasNgWalk p near among at load ng_set cost → IsCostBelow (IsNgStep p near among at load ng_set) (length among) cost
walk_is_step p near among at load ng_set cost some has = step_of_walk p near among at load ng_set cost has.stops some has.walks has.loaded has.remembers has.costs

pub step_is_walk : (p : Problem) (near : ℕ → List ℕ) (among : List ℕ) (at load ng_set cost : ℕ) → IsCostBelow (IsNgStep p near among at load ng_set) (length among) cost → HasNgWalk p near among at load ng_set cost
step_is_walk p near among at load ng_set cost below =
    let step = below.has in
    let c = get_or among below.arc 0 in
    let behind = step.behind.has_second in
    let contains : Contains among c = Contains-get_or among below.arc 0 below.below in
    let recalled : recalls (near c) c (ng_set_of near c behind.stops) at ≡ false = ap (λ n. recalls (near c) c n at) behind.remembers ∙ step.fresh in
    record {
      stops = c ∷ behind.stops;
      walks = record {
        within = All-cons (Contains among) c behind.stops contains behind.walks.within;
        fresh = (
          λ has. both_ways (stands_in (remembered near (c ∷ behind.stops)) at) (is_recalled near c behind.stops at ∙ recalled) (contained_stands (remembered near (c ∷ behind.stops)) at has),
          behind.walks.fresh,
        );
      };
      loaded = omega (arith, load_first p c behind.stops, behind.loaded, step.fits);
      remembers = ng_set_longer near at c behind.stops ∙ ap (λ n. bits_of (recalls (near c) c n) (near at)) behind.remembers ∙ step.becomes;
      costs = omega (arith, behind.costs, step.behind.whole, step.behind.has_first);
    }

-- ---- the least of the first steps, customer by customer

-- nothing looked at yet
pub no_steps : (p : Problem) (near : ℕ → List ℕ) (among : List ℕ) (at load ng_set : ℕ) → IsLeastCell (IsCostBelow (IsNgStep p near among at load ng_set) 0) mark
no_steps p near among at load ng_set = least_none (IsNgStep p near among at load ng_set) 0 (λ arc cost below step. absurd (omega (arith, below)))

-- the load has no room for the customer
pub step_skipped : (p : Problem) (near : ℕ → List ℕ) (among : List ℕ) (at load ng_set k best : ℕ) → load < demand_of p (get_or among k 0) → IsLeastCell (IsCostBelow (IsNgStep p near among at load ng_set) k) best → IsLeastCell (IsCostBelow (IsNgStep p near among at load ng_set) (k + 1)) best
step_skipped p near among at load ng_set k best heavy least = least_skipped (IsNgStep p near among at load ng_set) k best least (λ cost step. absurd (omega (arith, step.fits, heavy)))

-- a step from a place is looked up where the ng-set before it is
pub record IsBefore (near : ℕ → List ℕ) (at stop mask ng_set : ℕ) : Type 0 where
  pub fresh : recalls (near stop) stop mask at ≡ false
  pub becomes : bits_of (recalls (near stop) stop mask) (near at) ≡ ng_set

is_before : (near : ℕ → List ℕ) (masks at stop mask ng_set : ℕ) → ng_set_before (near at) (near stop) masks at stop mask ≡ ng_set → ng_set < masks → IsBefore near at stop mask ng_set
is_before near masks at stop mask ng_set is small =
    elim (cases_Bool (recalls (near stop) stop mask at)) [
      | inl known ↦ absurd (let none : ng_set_before (near at) (near stop) masks at stop mask ≡ masks = rw known refl in omega (arith, none, is, small))
      | inr fresh ↦ record { fresh = fresh; becomes = (let some : ng_set_before (near at) (near stop) masks at stop mask ≡ bits_of (recalls (near stop) stop mask) (near at) = rw fresh refl in sym some ∙ is) }
    ]

before_is : (near : ℕ → List ℕ) (masks at stop mask ng_set : ℕ) → recalls (near stop) stop mask at ≡ false → bits_of (recalls (near stop) stop mask) (near at) ≡ ng_set → ng_set_before (near at) (near stop) masks at stop mask ≡ ng_set
before_is near masks at stop mask ng_set fresh becomes = let some : ng_set_before (near at) (near stop) masks at stop mask ≡ bits_of (recalls (near stop) stop mask) (near at) = rw fresh refl in some ∙ becomes

-- every ng-set is below `masks`
ng_set_small : (p : Problem) (near : ℕ → List ℕ) (among : List ℕ) (masks at load ng_set cost : ℕ) → ((place : ℕ) → 2 ^ length (near place) ≤ masks) → HasNgWalk p near among at load ng_set cost → ng_set < masks
ng_set_small p near among masks at load ng_set cost wide has = omega (arith, has.remembers, few_bits (stands_in (remembered near has.stops)) (near at), wide at)

-- the cells behind the k-th customer were pulled into the row
pub step_pulled : (p : Problem) (near : ℕ → List ℕ) (among : List ℕ) (masks at load k weight : ℕ) (behind before old new : List ℕ) → ((place : ℕ) → 2 ^ length (near place) ≤ masks) → k < length among → demand_of p (get_or among k 0) ≤ load → weight ≡ weight_of p at (get_or among k 0) → length old ≡ masks
    → ((mask : ℕ) → mask < masks → IsLeastCell (HasNgWalk p near among (get_or among k 0) (load - demand_of p (get_or among k 0)) mask) (get_or behind mask 0))
    → ((mask : ℕ) → mask < masks → get_or before mask 0 ≡ ng_set_before (near at) (near (get_or among k 0)) masks at (get_or among k 0) mask)
    → ArePulled weight masks behind before old new → (ng_set : ℕ) → ng_set < masks → IsLeastCell (IsCostBelow (IsNgStep p near among at load ng_set) k) (get_or old ng_set 0) → IsLeastCell (IsCostBelow (IsNgStep p near among at load ng_set) (k + 1)) (get_or new ng_set 0)
step_pulled p near among masks at load k weight behind before old new wide inside fits weighs row cells befores pulled ng_set small best =
    let c = get_or among k 0 in
    let IsCost = IsNgStep p near among at load ng_set in
    record {
      met = λ low. elim (pulled.met ng_set) [
        | inl kept ↦ (
            let has = best.met (omega (arith, kept, low)) in
            let same : IsCostBelow IsCost (k + 1) (get_or old ng_set 0) = record { arc = has.arc; below = omega (arith, has.below); has = has.has } in
            subst (IsCostBelow IsCost (k + 1)) (sym kept) same
            )
        | inr (mask, below, from, value) ↦ (
            let before_here = is_before near masks at c mask ng_set (sym (befores mask below) ∙ from) small in
            record {
              arc = k;
              below = omega arith;
              has = record {
                inside = inside;
                fits = fits;
                mask = mask;
                fresh = before_here.fresh;
                becomes = before_here.becomes;
                behind = record {
                  first = weight;
                  second = get_or behind mask 0;
                  has_first = weighs;
                  has_second = (cells mask below).met (omega (arith, value, low));
                  whole = value;
                };
              };
            }
            )
      ];
      least = λ cost has. elim (cases_lt has.arc k) [
        | inl earlier ↦ (let low : get_or old ng_set 0 ≤ cost = best.least cost (record { arc = has.arc; below = earlier; has = has.has }) in omega (arith, low, pulled.kept ng_set))
        | inr later ↦ (
            let last : has.arc ≡ k = omega (arith, later, has.below) in
            let step : IsNgStep p near among at load ng_set k cost = subst (λ arc. IsNgStep p near among at load ng_set arc cost) last has.has in
            let below : step.mask < masks = ng_set_small p near among masks c (load - demand_of p c) step.mask step.behind.second wide step.behind.has_second in
            let to : get_or before step.mask 0 ≡ ng_set = befores step.mask below ∙ before_is near masks at c step.mask ng_set step.fresh step.becomes in
            let least = (cells step.mask below).least step.behind.second step.behind.has_second in
            let low = pulled.low step.mask below (omega (arith, to, small, row)) in
            omega (arith, low, least, ap (λ n. get_or new n 0) to, weighs, step.behind.whole, step.behind.has_first)
            )
      ];
    }

-- all customers were looked at
pub steps_looked : (p : Problem) (near : ℕ → List ℕ) (among : List ℕ) (at load ng_set k best : ℕ) → 0 < load → k ≡ length among → IsLeastCell (IsCostBelow (IsNgStep p near among at load ng_set) k) best → IsLeastCell (HasNgWalk p near among at load ng_set) best
steps_looked p near among at load ng_set k best some all least =
    least_same (IsCostBelow (IsNgStep p near among at load ng_set) (length among)) (HasNgWalk p near among at load ng_set) best
    (λ cost. step_is_walk p near among at load ng_set cost)
    (λ cost. walk_is_step p near among at load ng_set cost some)
    (subst (λ n. IsLeastCell (IsCostBelow (IsNgStep p near among at load ng_set) n) best) all least)
