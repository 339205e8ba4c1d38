-- Choices of a pool are feasible plans, and plans whose routes stand in the pool are choices of it.
use Rattle.std.proofs.Common.{◌≡◌, ◌≢◌, ℕ, ◌+◌, ◌<◌, ◌≤◌, List, [], ◌∷◌, ◌++◌, length, length-append, get_or, map, refl, sym, ap, subst, ◌∙◌, arith}
use Rattle.std.specs.Int.{bit_at}
use Rattle.std.specs.List.{All, Contains, sum_by}
use Rattle.std.proofs.lemmas.List.{get_or-map, length-map}
use Rattle.std.proofs.lemmas.List.Elements.{All-append, All-cons, All-contains, All-map, All-nil, All-tail, All-weaker, Contains-get_or}
use Rattle.std.proofs.lemmas.List.Sums.{sum_by-append, sum_by-cons}
use Rattle.vrp_partition.specs.Choice.{IsChoice}
use Rattle.vrp_canonical.specs.Reaching.{AreUnserved, Continues, IsPoolOf, IsRoute, Reaches, seen}
use Rattle.vrp_model.specs.Fleet.{IsFleet}
use Rattle.vrp_canonical.proofs.Counted.{served_visited, visited_served}
use Rattle.vrp_model.specs.Problem.{Problem}
use Rattle.vrp_model.specs.Route.{IsLawful, load_of, plan_cost, route_cost}
use Rattle.vrp_model.proofs.DistinctLists.{AreDistinct}
use Rattle.vrp_partition.specs.Choice.{cost_of, visits}
use Rattle.vrp_partition.specs.Choice.{set_of as set_in}
use Rattle.vrp_partition.specs.declared.route.Route.{Route}
use Rattle.vrp_model.specs.CustomerSet.{set_of}

pub sum_by_map : {X Y : Type 0} (f : Y → ℕ) (h : X → Y) (xs : List X) → sum_by f (map h xs) ≡ sum_by (λ x. f (h x)) xs
sum_by_map f h [] = refl
sum_by_map f h (x ∷ xs) = sum_by-cons f (h x) (map h xs) ∙ (ap (λ n. f (h x) + n) (sum_by_map f h xs) ∙ sym (sum_by-cons (λ x. f (h x)) x xs))

pub mapped_known : {X Y : Type 0} (h : X → Y) (xs : List X) (x : X) → Contains xs x → Contains (map h xs) (h x)
mapped_known h xs x (k, lt, is) = (k, omega (arith, lt, length-map xs h), get_or-map h xs k x (h x) lt ∙ ap h is)

-- parts of what is seen are what is seen of parts
pub record Unseen (p : Problem) (stops : List (List ℕ)) (parts : List Route) : Type 0 where
  pub routes : List (List ℕ)
  pub is : parts ≡ map (seen p) routes
  pub known : All (Contains stops) routes

pub unseen : (p : Problem) (stops : List (List ℕ)) (parts : List Route) → All (Contains (map (seen p) stops)) parts → Unseen p stops parts
unseen p stops [] known = record { routes = []; is = refl; known = All-nil (Contains stops) }
unseen p stops (part ∷ parts) known =
    let (k, lt, is) = known 0 part (omega arith) in
    let within : k < length stops = omega (arith, lt, length-map stops (seen p)) in
    let rest = unseen p stops parts (All-tail (Contains (map (seen p) stops)) part parts known) in
    let here : part ≡ seen p (get_or stops k []) = sym is ∙ get_or-map (seen p) stops k [] part within in
    record {
      routes = get_or stops k [] ∷ rest.routes;
      is = cc;
      known = All-cons (Contains stops) (get_or stops k []) rest.routes (Contains-get_or stops k [] within) rest.known;
    }

pub routes_known : (p : Problem) (stops routes : List (List ℕ)) → All (IsRoute p) stops → All (Contains stops) routes → All (IsRoute p) routes
routes_known p stops routes each known = All-weaker (Contains stops) (IsRoute p) (λ r here. All-contains (IsRoute p) stops r each here) routes known

pub are_distinct : (p : Problem) (routes : List (List ℕ)) → All (IsRoute p) routes → All AreDistinct routes
are_distinct p routes each = All-weaker (IsRoute p) AreDistinct (λ r route. route.begins.once) routes each

pub reached_continues : (p : Problem) (limit : ℕ) (stops : List (List ℕ)) (pool : List Route) (trucks : ℕ) (chosen : List (List ℕ)) (unserved left allowance most : ℕ)
    → IsPoolOf p limit stops pool → IsFleet p trucks → All (IsRoute p) chosen → AreUnserved p chosen unserved
    → length chosen + left ≤ trucks → plan_cost p chosen + allowance ≤ most
    → Reaches pool unserved left allowance → Continues p most chosen
reached_continues p limit stops pool trucks chosen unserved left allowance most pool_of fleet routes are_unserved few cheap reached =
    let parts = unseen p stops reached.parts (subst (λ (ps : List Route). All (Contains ps) reached.parts) pool_of.is reached.choice.known) in
    let others = parts.routes in
    let each : All (IsRoute p) (chosen ++ others) = All-append (IsRoute p) chosen others routes (routes_known p stops others pool_of.each parts.known) in
    let as_many : length reached.parts ≡ length others = ap length parts.is ∙ length-map others (seen p) in
    let as_costly : cost_of reached.parts ≡ plan_cost p others = ap cost_of parts.is ∙ sum_by_map (λ (r : Route). r.cost) (seen p) others in
    record {
      others = others;
      lawful = record {
        served = visited_served p (chosen ++ others) (are_distinct p (chosen ++ others) each) (λ k.
            let shared : visits set_of others k ≡ bit_at unserved k = sym (sum_by_map (λ (r : Route). bit_at r.set k) (seen p) others) ∙ sym (ap (λ (ps : List Route). visits set_in ps k) parts.is) ∙ reached.choice.once k in
            omega (arith, shared, are_unserved k, sum_by-append (λ r. bit_at (set_of r) k) chosen others));
        stops = All-weaker (IsRoute p) (λ r. r ≢ []) (λ r route. route.some) (chosen ++ others) each;
        fits = All-weaker (IsRoute p) (λ r. load_of p r ≤ p.capacity) (λ r route. route.begins.light) (chosen ++ others) each;
        few = fleet.has (length (chosen ++ others)) (omega (arith, as_many, length-append chosen others, few, reached.choice.few));
      };
      cheap = omega (arith, reached.cheap, as_costly, sum_by-append (route_cost p) chosen others, cheap);
    }

-- the other routes of a plan are a choice of each part of the pool that has them
pub plan_choice : (p : Problem) (part : List Route) (trucks : ℕ) (chosen others : List (List ℕ)) (unserved left : ℕ)
    → IsFleet p trucks → All (IsRoute p) (chosen ++ others) → AreUnserved p chosen unserved → IsLawful p (chosen ++ others)
    → All (λ r. Contains part (seen p r)) others → trucks ≤ length chosen + left
    → IsChoice set_in part unserved left (map (seen p) others)
plan_choice p part trucks chosen others unserved left fleet each are_unserved lawful known few =
    let as_many : length (map (seen p) others) ≡ length others = length-map others (seen p) in
    record {
      known = All-map (Contains part) (seen p) others known;
      once = λ k.
          let all = served_visited p (chosen ++ others) (are_distinct p (chosen ++ others) each) lawful.served k in
          let shared : visits set_in (map (seen p) others) k ≡ visits set_of others k = sum_by_map (λ (r : Route). bit_at r.set k) (seen p) others in
          omega (arith, all, shared, are_unserved k, sum_by-append (λ r. bit_at (set_of r) k) chosen others);
      few = omega (arith, as_many, few, fleet.most (chosen ++ others) lawful, length-append chosen others);
    }

pub seen_cost : (p : Problem) (others : List (List ℕ)) → cost_of (map (seen p) others) ≡ plan_cost p others
seen_cost p others = sum_by_map (λ (r : Route). r.cost) (seen p) others

pub plan_reaches : (p : Problem) (part : List Route) (trucks : ℕ) (chosen others : List (List ℕ)) (unserved left allowance most : ℕ)
    → IsFleet p trucks → All (IsRoute p) (chosen ++ others) → AreUnserved p chosen unserved → IsLawful p (chosen ++ others)
    → All (λ r. Contains part (seen p r)) others → trucks ≤ length chosen + left
    → plan_cost p (chosen ++ others) ≤ most → most ≤ plan_cost p chosen + allowance
    → Reaches part unserved left allowance
plan_reaches p part trucks chosen others unserved left allowance most fleet each are_unserved lawful known few cheap allowed = record {
  parts = map (seen p) others;
  choice = plan_choice p part trucks chosen others unserved left fleet each are_unserved lawful known few;
  cheap = omega (arith, cheap, allowed, seen_cost p others, sum_by-append (route_cost p) chosen others);
}

-- where they stand in the pool, so does what is seen of them
pub seen_known : (p : Problem) (limit : ℕ) (stops : List (List ℕ)) (pool : List Route) (others : List (List ℕ)) → IsPoolOf p limit stops pool → All (Contains stops) others → All (λ r. Contains pool (seen p r)) others
seen_known p limit stops pool others pool_of known =
    subst (λ (ps : List Route). All (λ r. Contains ps (seen p r)) others) (sym pool_of.is) (All-weaker (Contains stops) (λ r. Contains (map (seen p) stops) (seen p r)) (mapped_known (seen p) stops) others known)

pub continues_reached : (p : Problem) (limit : ℕ) (stops : List (List ℕ)) (pool : List Route) (trucks : ℕ) (chosen others : List (List ℕ)) (unserved left allowance most : ℕ)
    → IsPoolOf p limit stops pool → IsFleet p trucks → All (IsRoute p) chosen → AreUnserved p chosen unserved
    → trucks ≤ length chosen + left → most ≤ plan_cost p chosen + allowance
    → IsLawful p (chosen ++ others) → All (Contains stops) others → plan_cost p (chosen ++ others) ≤ most
    → Reaches pool unserved left allowance
continues_reached p limit stops pool trucks chosen others unserved left allowance most pool_of fleet routes are_unserved few allowed lawful known cheap =
    plan_reaches p pool trucks chosen others unserved left allowance most fleet (All-append (IsRoute p) chosen others routes (routes_known p stops others pool_of.each known)) are_unserved lawful
    (seen_known p limit stops pool others pool_of known) few cheap allowed
