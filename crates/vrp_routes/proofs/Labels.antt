-- What is counted along a beginning with one more stop.
use Rattle.std.proofs.Common.{◌≡◌, ◌≢◌, ℕ, ◌+◌, ◌-◌, ◌*◌, ◌^◌, ◌<◌, ◌≤◌, ◌==◌, if◌then◌else◌, false, true, false, List, [], ◌∷◌, ◌++◌, length, length-append, get_or, sym, ap, subst, ◌∙◌, arith}
use Rattle.std.specs.Int.{bit_at}
use Rattle.std.specs.Int.RustNames.{bit_or}
use Rattle.std.specs.List.{Contains}
use Rattle.std.proofs.lemmas.List.{get_or-append-add, get_or_append_left}
use Rattle.std.proofs.lemmas.Bool.{false≢true}
use Rattle.std.proofs.lemmas.Bool.Decides.{nat_tests}
use Rattle.std.proofs.lemmas.List.Elements.{All-append, All-cons, All-nil, Contains-get_or}
use Rattle.std.proofs.lemmas.List.FromFn.{length-range_with_len}
use Rattle.std.proofs.lemmas.List.Quantifiers.{all_pairs_push}
use Rattle.vrp_model.specs.Problem.{IsProblem, IsSymmetric, Problem, customers, demand_of, place_count, weight_of}
use Rattle.vrp_model.specs.Route.{load_of, route_cost}
use Rattle.vrp_model.specs.Word.{last_symbol, stands_in, word_cost}
use Rattle.vrp_model.specs.declared.limits.TheConstants.{MAX_NODES, MAX_WEIGHT}
use Rattle.vrp_model.proofs.CustomerPlaces.{customer_below, customer_is_some, is_customer, load_with}
use Rattle.vrp_model.proofs.DistinctLists.{AreDistinct}
use Rattle.vrp_model.proofs.DistinctWithin.{length_among}
use Rattle.vrp_model.proofs.LastRoute.{last_symbol_with}
use Rattle.vrp_model.proofs.PlanWords.{cost_parts}
use Rattle.vrp_model.proofs.Words.{last_is}
use Rattle.vrp_model.proofs.Recalled.{contained_stands, stands_contained}
use Rattle.vrp_model.specs.CustomerSet.{set_of}
use Rattle.vrp_model.proofs.Sets.{set_with, stands_if_set, stands_not_if_not_set}
use Rattle.vrp_routes.specs.Label.{IsBeginning, IsBeginningWith, IsLabel, SettingOf}
use Rattle.vrp_routes.specs.Level.{IsLevel}
use Rattle.vrp_routes.specs.Useful.{BeginsUseful, IsUsefulIn}
use Rattle.vrp_routes.specs.declared.label.Label.{Label}
use Rattle.vrp_routes.proofs.FeasibleRoutes.{useful_begins}
use Rattle.vrp_routes.proofs.CanonicalPlanRoutes.{useful_runs_forward}
use Rattle.vrp_routes.specs.declared.plan_range.PlanRange.{PlanRange}

-- a label that was read is that of its stops
pub read_label : {X : Type 0} (s : SettingOf X) (k : ℕ) (stops : List (List ℕ)) (labels : List (Label X)) (i : ℕ) (label : Label X) → IsLevel s k stops labels → i < length stops → label ≡ get_or labels i label → IsLabel s (get_or stops i []) label
read_label s k stops labels i label is lt read = subst (IsLabel s (get_or stops i [])) (sym read) (is.are.each i label lt)

pub cost_with : (p : Problem) (stops : List ℕ) (k : ℕ) → word_cost p (stops ++ k ∷ []) ≡ word_cost p stops + weight_of p (last_symbol stops) k
cost_with p stops k = let parts = cost_parts p 0 stops (k ∷ []) in rw (last_is stops) (omega (arith, parts))

-- a beginning has fewer stops than there are places
pub short_beginning : (p : Problem) (stops : List ℕ) → IsProblem p → IsBeginning p stops → length stops + 1 ≤ place_count p
short_beginning p stops problem begins = omega (arith, length_among stops (customers p) begins.once begins.known, length-range_with_len 1 (place_count p - 1), problem.some_places)

-- and ends at a place
pub last_place : (p : Problem) (stops : List ℕ) → IsProblem p → IsBeginning p stops → last_symbol stops < place_count p
last_place p [] problem begins = omega (arith, problem.some_places)
last_place p (k ∷ stops) problem begins = customer_below p (last_symbol (k ∷ stops)) (begins.known (length (k ∷ stops) - 1) 0 (omega arith))

twice : (stops : List ℕ) (k : ℕ) → stands_in stops k ≡ true → AreDistinct (stops ++ k ∷ []) → ⊥
twice stops k stands distinct =
    let (i, lt, is) = stands_contained stops k stands in
    let end : length stops + 0 ≡ length stops = omega arith in
    let there : get_or (stops ++ k ∷ []) (length stops) k ≡ k = ap (λ n. get_or (stops ++ k ∷ []) n k) (sym end) ∙ get_or-append-add stops (k ∷ []) 0 k in
    distinct i (length stops) k lt (omega (arith, length-append stops (k ∷ []))) (get_or_append_left stops (k ∷ []) k i lt ∙ is ∙ sym there)

-- what keeps a useful route from going on to a stop
pub not_twice : (p : Problem) (range : PlanRange) (stops : List ℕ) (k set : ℕ) → set ≡ set_of stops → bit_at set k ≡ 1 → BeginsUseful p range (stops ++ k ∷ []) → ⊥
not_twice p range stops k set is taken useful =
    twice stops k (stands_if_set stops k (subst (λ n. bit_at n k ≡ 1) is taken)) (useful_begins p range (stops ++ k ∷ []) useful).once

pub not_too_heavy : (p : Problem) (range : PlanRange) (stops : List ℕ) (k load : ℕ) → load ≡ load_of p stops → p.capacity < load + demand_of p k → BeginsUseful p range (stops ++ k ∷ []) → ⊥
not_too_heavy p range stops k load is heavy useful = omega (arith, (useful_begins p range (stops ++ k ∷ []) useful).light, load_with p stops k, is, heavy)

-- what a label says of the beginning with one more stop
pub record Continues {X : Type 0} (s : SettingOf X) (label : Label X) (stop first load cost set : ℕ) : Type 0 where
  pub problem : IsProblem s.problem
  pub some : 0 < stop
  pub place : stop < place_count s.problem
  pub fresh : bit_at label.set stop ≡ 1 → ⊥
  pub load_is : load ≡ label.load + demand_of s.problem stop
  pub light : load ≤ s.problem.capacity
  pub cost_is : cost ≡ label.cost + weight_of s.problem label.last stop
  pub set_is : set ≡ bit_or label.set (2 ^ stop)
  pub first_is : first ≡ (if label.first == 0 then stop else label.first)

pub longer_beginning : (p : Problem) (stops : List ℕ) (k : ℕ) → IsBeginning p stops → 0 < k → k < place_count p → stands_in stops k ≡ false → load_of p stops + demand_of p k ≤ p.capacity → IsBeginning p (stops ++ k ∷ [])
longer_beginning p stops k begins some place fresh light = record {
  known = All-append (Contains (customers p)) stops (k ∷ []) begins.known (All-cons (Contains (customers p)) k [] (is_customer p k some place) (All-nil (Contains (customers p))));
  once = all_pairs_push (λ a b. a ≢ b) stops k begins.once (λ i d lt same. false≢true (sym fresh ∙ contained_stands stops k (subst (Contains stops) same (Contains-get_or stops i d lt))));
  light = omega (arith, load_with p stops k, light);
}

pub small_with : (p : Problem) (stops : List ℕ) (k cost before weight : ℕ) → IsProblem p → before ≤ MAX_WEIGHT * length stops → cost ≡ before + weight_of p (last_symbol stops) k → cost ≤ MAX_WEIGHT * length (stops ++ k ∷ [])
small_with p stops k cost before weight problem small is = omega (arith, problem.small_weights (last_symbol stops * place_count p + k), length-append stops (k ∷ []), small, is)

first_with : (p : Problem) (stops : List ℕ) (k first : ℕ) → IsBeginning p stops → first ≡ get_or stops 0 0 → (if first == 0 then k else first) ≡ get_or (stops ++ k ∷ []) 0 0
first_with p [] k first begins is = ap (λ n. if n == 0 then k else n) is
first_with p (stop ∷ stops) k first begins is =
    let some : 0 < stop = customer_is_some p stop (begins.known 0 0 (omega arith)) in
    let other : (first == 0) ≡ false = grind (arith, nat_tests, some, is) in
    ap (λ b. if b then k else first) other ∙ is

-- a label is told as its beginning
pub told_label : {X : Type 0} (s : SettingOf X) (stops : List ℕ) (label : Label X) → IsLabel s stops label → IsBeginningWith s.problem stops label.set label.load label.last
told_label s stops label is = record { begins = is.begins; set_is = is.set; load_is = is.load; last_is = is.last }

-- a stop that is not in the set goes on, where the truck can carry it
pub goes_on : {X : Type 0} (s : SettingOf X) (stops : List ℕ) (label : Label X) (stop load : ℕ) → IsLabel s stops label → 0 < stop → stop < place_count s.problem → (bit_at label.set stop ≡ 1 → ⊥) → load ≡ label.load + demand_of s.problem stop → load ≤ s.problem.capacity
    → IsBeginning s.problem (stops ++ stop ∷ [])
goes_on s stops label stop load is some place fresh load_is light =
    longer_beginning s.problem stops stop is.begins some place (stands_not_if_not_set stops stop (subst (λ n. bit_at n stop ≡ 1 → ⊥) is.set fresh)) (omega (arith, load_is, is.load, light))

pub longer_label : {X : Type 0} (s : SettingOf X) (stops : List ℕ) (label : Label X) (stop parent first load cost set : ℕ) (resources : X) → IsLabel s stops label → Continues s label stop first load cost set → s.Counts (stops ++ stop ∷ []) resources
    → IsLabel s (stops ++ stop ∷ []) (record { first = first; last = stop; parent = parent; set = set; load = load; cost = cost; resources = resources })
longer_label s stops label stop parent first load cost set resources is on counted =
    let p = s.problem in
    let arc : cost ≡ label.cost + weight_of p (last_symbol stops) stop = on.cost_is ∙ ap (λ at. label.cost + weight_of p at stop) is.last in
    record {
      begins = goes_on s stops label stop load is on.some on.place on.fresh on.load_is on.light;
      first = on.first_is ∙ first_with p stops stop label.first is.begins is.first;
      last = sym (last_symbol_with stops stop);
      set = on.set_is ∙ ap (λ n. bit_or n (2 ^ stop)) is.set ∙ sym (set_with stops stop);
      load = omega (arith, on.load_is, is.load, load_with p stops stop);
      cost = omega (arith, arc, is.cost, cost_with p stops stop);
      small_cost = small_with p stops stop cost label.cost 0 on.problem is.small_cost arc;
      counted = counted;
    }

-- ---- what is told of a label by its instance

-- a label ends at a place
pub label_place : {X : Type 0} (s : SettingOf X) (label : Label X) → IsProblem s.problem → (stops : List ℕ) × IsLabel s stops label → label.last < place_count s.problem
label_place s label problem (stops, is) = subst (λ at. at < place_count s.problem) (sym is.last) (last_place s.problem stops problem is.begins)

-- costs along a beginning are small
pub small_cost_along : (p : Problem) (stops : List ℕ) (cost : ℕ) → IsProblem p → IsBeginning p stops → cost ≤ MAX_WEIGHT * length stops → cost ≤ MAX_WEIGHT * MAX_NODES
small_cost_along p stops cost problem begins small = let short = short_beginning p stops problem begins in let few = problem.few_places in omega (arith, small, short, few)

pub label_small : {X : Type 0} (s : SettingOf X) (label : Label X) → IsProblem s.problem → (stops : List ℕ) × IsLabel s stops label → label.cost ≤ MAX_WEIGHT * MAX_NODES
label_small s label problem (stops, is) = small_cost_along s.problem stops label.cost problem is.begins is.small_cost

-- ---- closed

pub backward : {X : Type 0} (s : SettingOf X) (label : Label X) → label.last < label.first → IsSymmetric s.problem → (stops : List ℕ) → IsLabel s stops label → IsUsefulIn s.problem s.range stops → ⊥
backward s label turned symmetric stops is useful = let forward = useful_runs_forward s.problem s.range stops useful symmetric in omega (arith, forward, turned, is.first, is.last)

pub closed_cost : {X : Type 0} (s : SettingOf X) (stops : List ℕ) (label : Label X) (cost : ℕ) → IsLabel s stops label → cost ≡ label.cost + weight_of s.problem label.last 0 → cost ≡ route_cost s.problem stops
closed_cost s stops label cost is cost_is =
    let arc : cost ≡ label.cost + weight_of s.problem (last_symbol stops) 0 = cost_is ∙ ap (λ at. label.cost + weight_of s.problem at 0) is.last in
    omega (arith, arc, is.cost, cost_with s.problem stops 0)
