-- One pass over the pool: the routes that are chosen are the first ones of the canonical plan, and its others stand later in the
-- pool.
use Rattle.std.proofs.Common.{◌≡◌, ◌≢◌, ℕ, ◌+◌, ◌<◌, ◌≤◌, min, inl, inr, List, [], ◌∷◌, ◌++◌, bit_and, bit_xor, drop, length, length-append, length-drop, get_or, refl, sym, ap, subst, ◌∙◌, append_assoc, append-nil, arith}
use Rattle.std.specs.Int.{bit_at}
use Rattle.std.specs.List.{All, AllPairs, Contains, remove}
use Rattle.std.specs.List.Sorted.{IsPermutation}
use Rattle.std.proofs.lemmas.Bool.{cases_lt}
use Rattle.std.proofs.lemmas.List.{drop_all, drop_more, get_or-drop, get_or-map, length-map, map-append}
use Rattle.std.proofs.lemmas.List.Elements.{All-append, All-contains, All-contains_itself, All-drop, All-from_get_or, All-nil, All-push, All-weaker, Contains-append_right}
use Rattle.std.proofs.lemmas.List.Sorted.{All-permutation, IsPermutation-remove, length_permutation, sum_by-IsPermutation}
use Rattle.std.proofs.lemmas.List.Sums.{sum_by-append, sum_by-cons}
use Rattle.std.proofs.lemmas.Nat.Bits.{bit_at-lt, bit_at_and, bit_at_xor, same_from_bits}
use Rattle.vrp_canonical.specs.Reaching.{AreUnserved, Continues, IsPoolOf, IsRoute, IsTask, Reaches, plan_at, routes_at, seen}
use Rattle.vrp_model.specs.Fleet.{IsFleet}
use Rattle.vrp_canonical.specs.Passing.{IsAfter, IsBegun}
use Rattle.vrp_canonical.specs.declared.residual.Residual.{Residual}
use Rattle.vrp_canonical.proofs.Counted.{served_visited, visited_served}
use Rattle.vrp_canonical.proofs.NextRoutes.{first_or_later, next_is}
use Rattle.vrp_canonical.proofs.PlanChoices.{are_distinct, continues_reached, reached_continues, routes_known}
use Rattle.vrp_model.specs.Order.{IsEarlier, IsCanonical}
use Rattle.vrp_model.specs.Problem.{HasTrucks, IsProblem, Problem, customers}
use Rattle.vrp_model.specs.Route.{IsLawful, PricedPlan, load_of, plan_cost, route_cost}
use Rattle.vrp_model.proofs.CanonicalPlans.{canonical_exists}
use Rattle.vrp_partition.specs.Choice.{visits}
use Rattle.vrp_partition.specs.declared.route.Route.{Route}
use Rattle.vrp_model.specs.CustomerSet.{set_of}

-- ---- what the canonical plan costs

pub canonical_cheapest : (p : Problem) (plan : PricedPlan) (routes : List (List ℕ)) → IsCanonical p plan → IsLawful p routes → plan.cost ≤ plan_cost p routes
canonical_cheapest p plan routes canonical lawful = elim (cases_lt (plan_cost p routes) plan.cost) [
  | inl less ↦ absurd (canonical.none_before (record { routes = routes; cost = plan_cost p routes }) (record { lawful = lawful; priced = refl }) (inl less))
  | inr within ↦ within
]

-- the routes of the canonical plan stand in the pool
pub in_pool : (p : Problem) (limit : ℕ) (stops : List (List ℕ)) (pool : List Route) (plan : PricedPlan) → IsPoolOf p limit stops pool → IsCanonical p plan → plan.cost ≤ limit → All (Contains stops) plan.routes
in_pool p limit stops pool plan pool_of canonical cheap = All-weaker (Contains plan.routes) (Contains stops) (λ r among. pool_of.every r (record { plan = plan; canonical = canonical; cheap = cheap; many = omega arith; few = λ most is. absurd (cc); among = among })) plan.routes (All-contains_itself plan.routes)

-- before any route is chosen all customers are unserved
pub all_unserved : (p : Problem) → AreUnserved p [] (set_of (customers p))
all_unserved p k = let none : visits set_of [] k ≡ 0 = refl in omega (arith, none)

pub least_first : (p : Problem) (limit : ℕ) (stops : List (List ℕ)) (pool : List Route) (trucks least : ℕ)
    → IsProblem p → IsPoolOf p limit stops pool → IsFleet p trucks → least ≤ limit
    → Reaches pool (set_of (customers p)) trucks least
    → ((cost : ℕ) → Reaches pool (set_of (customers p)) trucks cost → least ≤ cost)
    → (plan : PricedPlan) × IsCanonical p plan × (plan.cost ≡ least)
least_first p limit stops pool trucks least problem pool_of fleet within reached none =
    let free : plan_cost p [] ≡ 0 = refl in
    let on = reached_continues p limit stops pool trucks [] (set_of (customers p)) trucks least least pool_of fleet (All-nil (IsRoute p)) (all_unserved p) (omega arith) (omega (arith, free)) reached in
    let (plan, canonical) = canonical_exists p on.others problem on.lawful in
    let most : plan.cost ≤ least = omega (arith, canonical_cheapest p plan on.others canonical on.lawful, on.cheap) in
    let known = in_pool p limit stops pool plan pool_of canonical (omega (arith, most, within)) in
    let cheap : plan_cost p plan.routes ≤ plan.cost = omega (arith, canonical.plan_of.priced) in
    let low = none plan.cost (continues_reached p limit stops pool trucks [] plan.routes (set_of (customers p)) trucks plan.cost plan.cost pool_of fleet (All-nil (IsRoute p)) (all_unserved p) (omega arith) (omega (arith, free)) canonical.plan_of.lawful known cheap) in
    (plan, canonical, omega (arith, most, low))

-- ---- sets

-- a set is within the unserved customers where each customer of it is unserved
pub set_within : (set unserved : ℕ) → ((k : ℕ) → bit_at set k ≤ bit_at unserved k) → bit_and set unserved ≡ set
set_within set unserved below = same_from_bits (bit_and set unserved) set (λ k. let both = bit_at_and set unserved k in let less = below k in omega (arith, both, less))

pub within_below : (set unserved k : ℕ) → bit_and set unserved ≡ set → bit_at set k ≤ bit_at unserved k
within_below set unserved k is = let both : bit_at set k ≡ min (bit_at set k) (bit_at unserved k) = sym (ap (λ n. bit_at n k) is) ∙ bit_at_and set unserved k in omega (arith, both)

pub taken_bit : (set unserved k : ℕ) → bit_and set unserved ≡ set → bit_at (bit_xor unserved set) k + bit_at set k ≡ bit_at unserved k
taken_bit set unserved k is =
    let less = within_below set unserved k is in
    let one = bit_at-lt unserved k in
    let other = bit_at-lt set k in
    omega (arith, bit_at_xor unserved set k, less, one, other)

-- ---- one more route

visits_push : (routes : List (List ℕ)) (r : List ℕ) (k : ℕ) → visits set_of (routes ++ r ∷ []) k ≡ visits set_of routes k + bit_at (set_of r) k
visits_push routes r k = omega (arith, sum_by-append (λ x. bit_at (set_of x) k) routes (r ∷ []), sum_by-cons (λ x. bit_at (set_of x) k) r [])

cost_push : (p : Problem) (routes : List (List ℕ)) (r : List ℕ) → plan_cost p (routes ++ r ∷ []) ≡ plan_cost p routes + route_cost p r
cost_push p routes r = omega (arith, sum_by-append (route_cost p) routes (r ∷ []), sum_by-cons (route_cost p) r [])

unserved_push : (p : Problem) (routes : List (List ℕ)) (r : List ℕ) (unserved : ℕ) → AreUnserved p routes unserved → bit_and (set_of r) unserved ≡ set_of r → AreUnserved p (routes ++ r ∷ []) (bit_xor unserved (set_of r))
unserved_push p routes r unserved are_unserved within = λ k. omega (arith, visits_push routes r k, taken_bit (set_of r) unserved k within, are_unserved k)

-- the routes of a plan in another order
pub moved_plan : (p : Problem) (before rest others : List (List ℕ)) → All (IsRoute p) before → All (IsRoute p) others → All (IsRoute p) rest → IsPermutation rest others → IsLawful p (before ++ rest) → IsLawful p (before ++ others) × (plan_cost p (before ++ others) ≡ plan_cost p (before ++ rest))
moved_plan p before rest others one two three moved lawful =
    let each : All (IsRoute p) (before ++ others) = All-append (IsRoute p) before others one two in
    let old : All (IsRoute p) (before ++ rest) = All-append (IsRoute p) before rest one three in
    let many : length (before ++ rest) ≡ length (before ++ others) = omega (arith, length-append before rest, length-append before others, length_permutation rest others moved) in (
      record {
        served = visited_served p (before ++ others) (are_distinct p (before ++ others) each) (λ k.
            omega (arith, served_visited p (before ++ rest) (are_distinct p (before ++ rest) old) lawful.served k, sum_by-append (λ r. bit_at (set_of r) k) before rest, sum_by-append (λ r. bit_at (set_of r) k) before others, sum_by-IsPermutation (λ r. bit_at (set_of r) k) rest others moved));
        stops = All-weaker (IsRoute p) (λ r. r ≢ []) (λ r route. route.some) (before ++ others) each;
        fits = All-weaker (IsRoute p) (λ r. load_of p r ≤ p.capacity) (λ r route. route.begins.light) (before ++ others) each;
        few = subst (HasTrucks p) many lawful.few;
      },
      omega (arith, sum_by-append (route_cost p) before rest, sum_by-append (route_cost p) before others, sum_by-IsPermutation (route_cost p) rest others moved),
    )

-- ---- the pass

pub setting_out : (p : Problem) (limit : ℕ) (stops : List (List ℕ)) (pool : List Route) (whole : Residual) (task : IsTask p limit stops pool whole) → IsBegun p stops task.plan whole 0 [] whole
setting_out p limit stops pool whole task = record {
  routes = All-nil (IsRoute p);
  others = task.plan.routes;
  is = refl;
  among = in_pool p limit stops pool task.plan task.pool_of task.canonical (omega (arith, task.cost_is, task.within));
  unserved = subst (AreUnserved p []) (sym task.customers_are) (all_unserved p);
  trucks = omega arith;
  cost = let free : plan_cost p [] ≡ 0 = refl in omega (arith, free);
}

-- the route at a place, and those behind it
split_at : (stops : List (List ℕ)) (index : ℕ) → index < length stops → drop index stops ≡ get_or stops index [] ∷ drop (index + 1) stops
split_at stops index lt = drop_more stops index [] lt

-- the routes in the pool behind a place come later
later_rise : (stops : List (List ℕ)) (index : ℕ) → AllPairs IsEarlier stops → All (IsEarlier (get_or stops index [])) (drop (index + 1) stops)
later_rise stops index rising = All-from_get_or (IsEarlier (get_or stops index [])) (drop (index + 1) stops) [] (λ k lt.
    let within : index + 1 + k < length stops = omega (arith, lt, length-drop (index + 1) stops) in
    subst (IsEarlier (get_or stops index [])) (sym (get_or-drop (index + 1) stops k [])) (rising index (index + 1 + k) [] (omega arith) within))

-- the other routes of the canonical plan stand in the pool
pub others_known : (p : Problem) (limit : ℕ) (stops : List (List ℕ)) (pool : List Route) (whole : Residual) (task : IsTask p limit stops pool whole)
    → (routes others : List (List ℕ)) → task.plan.routes ≡ routes ++ others → All (Contains stops) others
others_known p limit stops pool whole task routes others is =
    let known = in_pool p limit stops pool task.plan task.pool_of task.canonical (omega (arith, task.cost_is, task.within)) in
    All-weaker (Contains others) (Contains stops) (λ r among. All-contains (Contains stops) task.plan.routes r known (subst (λ (rs : List (List ℕ)). Contains rs r) (sym is) (Contains-append_right routes others r among))) others (All-contains_itself others)

routes_push : (stops : List (List ℕ)) (chosen : List ℕ) (index : ℕ) → routes_at stops (chosen ++ index ∷ []) ≡ routes_at stops chosen ++ get_or stops index [] ∷ []
routes_push stops chosen index = map-append (λ at. get_or stops at []) chosen (index ∷ [])

-- a plan goes on with a route of the pool where the answer is yes for it
pub asked_continues : (p : Problem) (limit : ℕ) (stops : List (List ℕ)) (pool : List Route) (whole : Residual) (task : IsTask p limit stops pool whole)
    → (index : ℕ) (chosen : List ℕ) (rest : Residual) → IsBegun p stops task.plan whole index chosen rest → (at left allowance : ℕ) → at < length stops
    → bit_and (set_of (get_or stops at [])) rest.unserved ≡ set_of (get_or stops at [])
    → left + 1 ≤ rest.trucks → route_cost p (get_or stops at []) + allowance ≤ rest.most
    → Reaches pool (bit_xor rest.unserved (set_of (get_or stops at []))) left allowance
    → Continues p whole.most (routes_at stops chosen ++ get_or stops at [] ∷ [])
asked_continues p limit stops pool whole task index chosen rest begun at left allowance lt within few cheap reached =
    let r = get_or stops at [] in
    let routes = routes_at stops chosen in
    let each : All (IsRoute p) (routes ++ r ∷ []) = All-push (IsRoute p) routes r begun.routes (task.pool_of.each at [] lt) in
    reached_continues p limit stops pool whole.trucks (routes ++ r ∷ []) (bit_xor rest.unserved (set_of r)) left allowance whole.most task.pool_of task.fleet each (unserved_push p routes r rest.unserved begun.unserved within)
    (omega (arith, length-append routes (r ∷ []), length-map chosen (λ at. get_or stops at []), few, begun.trucks))
    (omega (arith, cost_push p routes r, cheap, begun.cost)) reached

-- a plan goes on with the route at this place: it is the next one
pub taken_on : (p : Problem) (limit : ℕ) (stops : List (List ℕ)) (pool : List Route) (whole : Residual) (task : IsTask p limit stops pool whole)
    → (index : ℕ) (chosen : List ℕ) (rest next : Residual) → IsBegun p stops task.plan whole index chosen rest → index < length stops
    → IsAfter rest (seen p (get_or stops index [])) next
    → Continues p whole.most (routes_at stops chosen ++ get_or stops index [] ∷ [])
    → IsBegun p stops task.plan whole (index + 1) (chosen ++ index ∷ []) next
taken_on p limit stops pool whole task index chosen rest next begun lt after on =
    let r = get_or stops index [] in
    let routes = routes_at stops chosen in
    let later = drop (index + 1) stops in
    let each : All (IsRoute p) (routes ++ r ∷ []) = All-push (IsRoute p) routes r begun.routes (task.pool_of.each index [] lt) in
    let unserved = unserved_push p routes r rest.unserved begun.unserved after.within in
    let split = split_at stops index lt in
    let follows = next_is p task.plan routes begun.others later r task.canonical begun.is
    (subst (λ (xs : List (List ℕ)). All (Contains xs) begun.others) split begun.among)
    (later_rise stops index task.rising)
    (subst (All (IsRoute p)) split (All-drop (IsRoute p) index stops task.pool_of.each))
    (subst (λ n. Continues p n (routes ++ r ∷ [])) (sym task.cost_is) on) in
    let same = sym (routes_push stops chosen index) in
    record {
      routes = subst (All (IsRoute p)) same each;
      others = follows.0;
      is = begun.is ∙ ap (λ (rs : List (List ℕ)). routes ++ rs) follows.1 ∙ sym (append_assoc routes (r ∷ []) follows.0) ∙ ap (λ (rs : List (List ℕ)). rs ++ follows.0) same;
      among = follows.2;
      unserved = subst (λ n. AreUnserved p (routes_at stops (chosen ++ index ∷ [])) n) (sym after.unserved) (subst (λ (rs : List (List ℕ)). AreUnserved p rs (bit_xor rest.unserved (set_of r))) same unserved);
      trucks = omega (arith, begun.trucks, after.trucks, length-append chosen (index ∷ []));
      cost = omega (arith, begun.cost, after.most, cost_push p routes r, ap (plan_cost p) same);
    }

-- each other route of the canonical plan serves none but unserved customers
pub standing : (p : Problem) (limit : ℕ) (stops : List (List ℕ)) (pool : List Route) (whole : Residual) (task : IsTask p limit stops pool whole)
    → (index : ℕ) (chosen : List ℕ) (rest : Residual) (begun : IsBegun p stops task.plan whole index chosen rest) (r : List ℕ) → Contains begun.others r
    → bit_and (set_of r) rest.unserved ≡ set_of r
standing p limit stops pool whole task index chosen rest begun r (at, lt, is) =
    let routes = routes_at stops chosen in
    let others = remove begun.others at in
    let moved : IsPermutation begun.others (r ∷ others) = IsPermutation-remove begun.others at r lt (sym is) in
    let known = others_known p limit stops pool whole task routes begun.others begun.is in
    let old_each = routes_known p stops begun.others task.pool_of.each known in
    let others_each = All-permutation (IsRoute p) begun.others (r ∷ others) moved old_each in
    let (lawful, price) = moved_plan p routes begun.others (r ∷ others) begun.routes others_each old_each moved (subst (IsLawful p) begun.is task.canonical.plan_of.lawful) in
    let all_each : All (IsRoute p) (routes ++ r ∷ others) = All-append (IsRoute p) routes (r ∷ others) begun.routes others_each in
    set_within (set_of r) rest.unserved (λ k.
    omega (arith, begun.unserved k, served_visited p (routes ++ r ∷ others) (are_distinct p (routes ++ r ∷ others) all_each) lawful.served k, sum_by-append (λ x. bit_at (set_of x) k) routes (r ∷ others), sum_by-cons (λ x. bit_at (set_of x) k) r others))

-- a route that serves another customer is none of them
pub passed : (p : Problem) (limit : ℕ) (stops : List (List ℕ)) (pool : List Route) (whole : Residual) (task : IsTask p limit stops pool whole)
    → (index : ℕ) (chosen : List ℕ) (rest : Residual) → IsBegun p stops task.plan whole index chosen rest → index < length stops
    → (bit_and (set_of (get_or stops index [])) rest.unserved ≡ set_of (get_or stops index []) → ⊥)
    → IsBegun p stops task.plan whole (index + 1) chosen rest
passed p limit stops pool whole task index chosen rest begun lt never =
    let r = get_or stops index [] in
    let later = drop (index + 1) stops in
    let among : All (Contains (r ∷ later)) begun.others = subst (λ (xs : List (List ℕ)). All (Contains xs) begun.others) (split_at stops index lt) begun.among in
    record {
      routes = begun.routes;
      others = begun.others;
      is = begun.is;
      among = All-weaker (Contains begun.others) (Contains later) (λ x here. elim (first_or_later r x later (All-contains (Contains (r ∷ later)) begun.others x among here)) [
        | inl same ↦ absurd (never (standing p limit stops pool whole task index chosen rest begun r (subst (Contains begun.others) (sym same) here)))
        | inr behind ↦ behind
      ]) begun.others (All-contains_itself begun.others);
      unserved = begun.unserved;
      trucks = begun.trucks;
      cost = begun.cost;
    }

none_stands : {X : Type 0} (xs ys : List X) → xs ≡ [] → All (Contains xs) ys → ys ≡ []
none_stands xs [] none all = refl
none_stands xs (y ∷ ys) none all = let (k, lt, is) = all 0 y (omega arith) in absurd (let long : length xs ≡ 0 = ap length none in omega (arith, lt, long))

same_plan : (plan other : PricedPlan) → plan.routes ≡ other.routes → plan.cost ≡ other.cost → plan ≡ other
same_plan plan other routes cost = λ i. record { routes = routes i; cost = cost i }

pub arrived : (p : Problem) (limit : ℕ) (stops : List (List ℕ)) (pool : List Route) (whole : Residual) (task : IsTask p limit stops pool whole)
    → (index : ℕ) (chosen : List ℕ) (rest : Residual) → IsBegun p stops task.plan whole index chosen rest → length pool ≤ index
    → IsCanonical p (plan_at stops chosen whole.most)
arrived p limit stops pool whole task index chosen rest begun end =
    let many : length pool ≡ length stops = ap length task.pool_of.is ∙ length-map stops (seen p) in
    let none : begun.others ≡ [] = none_stands (drop index stops) begun.others (drop_all index stops (omega (arith, many, end))) begun.among in
    let routes : task.plan.routes ≡ routes_at stops chosen = begun.is ∙ ap (λ (rs : List (List ℕ)). routes_at stops chosen ++ rs) none ∙ append-nil (routes_at stops chosen) in
    subst (IsCanonical p) (same_plan task.plan (plan_at stops chosen whole.most) routes task.cost_is) task.canonical

-- ---- the same of the routes as the pool has them

pub is_seen : (p : Problem) (limit : ℕ) (stops : List (List ℕ)) (pool : List Route) (index : ℕ) → IsPoolOf p limit stops pool → index < length pool
    → (index < length stops) × (seen p (get_or stops index []) ≡ get_or pool index (record { set = 0; cost = 0 }))
is_seen p limit stops pool index pool_of lt =
    let many : length pool ≡ length stops = ap length pool_of.is ∙ length-map stops (seen p) in
    let within : index < length stops = omega (arith, lt, many) in
    (within, sym (ap (λ (ps : List Route). get_or ps index (record { set = 0; cost = 0 })) pool_of.is ∙ get_or-map (seen p) stops index [] (record { set = 0; cost = 0 }) within))

pub step_passed : (p : Problem) (limit : ℕ) (stops : List (List ℕ)) (pool : List Route) (whole : Residual) (task : IsTask p limit stops pool whole)
    → (index : ℕ) (chosen : List ℕ) (rest : Residual) → IsBegun p stops task.plan whole index chosen rest → index < length pool
    → (bit_and (get_or pool index (record { set = 0; cost = 0 })).set rest.unserved ≡ (get_or pool index (record { set = 0; cost = 0 })).set → ⊥)
    → IsBegun p stops task.plan whole (index + 1) chosen rest
step_passed p limit stops pool whole task index chosen rest begun lt =
    let (within, is) = is_seen p limit stops pool index task.pool_of lt in
    subst (λ (x : Route). (bit_and x.set rest.unserved ≡ x.set → ⊥) → IsBegun p stops task.plan whole (index + 1) chosen rest) is
    (passed p limit stops pool whole task index chosen rest begun within)
