-- The cheapest choice of a pool from those of its parts.
use Rattle.std.proofs.Common.{◌≡◌, ℕ, suc, ◌+◌, ◌*◌, ◌<◌, ◌≤◌, ◌-◌, inl, inr, Bool, List, [], ◌∷◌, length, get_or, map, refl, sym, ◌∙◌, ap, subst, arith, ℤ, pos, ◌+ℤ◌, ◌-ℤ◌, ◌≤ℤ◌, ◌<ℤ◌, unsigned_abs}
use Rattle.std.specs.Int.{bit_at}
use Rattle.std.specs.List.{All, Contains, filter, sum_by}
use Rattle.std.proofs.Math.Nat.{mul-le-mul_left}
use Rattle.std.proofs.lemmas.Bool.{cases_lt}
use Rattle.std.proofs.lemmas.Int.{ints}
use Rattle.std.proofs.lemmas.List.{get_or-map, length-map}
use Rattle.std.proofs.lemmas.List.Elements.{All-contains, All-contains_itself, All-filter, All-map, All-weaker}
use Rattle.std.proofs.lemmas.List.Sums.{sum_by-cons}
use Rattle.vrp_partition.specs.Choice.{IsCheapest, IsChoice, NoneBelow, cost_of}
use Rattle.vrp_partition.specs.Covering.{IsLeast, column_of, column_set, columns_reduced_cost, route_of}
use Rattle.vrp_partition.specs.Prices.{AreValid, NoneNegative, Prices, is_within_gap, lower_bound_of, reduced_cost_of, gap_of, total}
use Rattle.vrp_partition.specs.declared.cover.Column.{Column}
use Rattle.vrp_partition.specs.declared.route.Route.{Route}
use Rattle.vrp_partition.proofs.PricedChoices.{priced_choice}
use Rattle.vrp_partition.proofs.PoolParts.{kept_choice, none_in_gap}

pub filtered_known : {X : Type 0} (p : X → Bool) (xs : List X) (x : X) → Contains (filter p xs) x → Contains xs x
filtered_known p xs x has = All-contains (Contains xs) (filter p xs) x (All-filter p (Contains xs) xs (All-contains_itself xs)) has

pub none_cheaper : (prices : Prices) (scale customers trucks fewest incumbent : ℕ) (pool : List Route) → AreValid prices pool customers fewest → NoneNegative prices scale pool → 0 < incumbent → gap_of prices scale customers trucks (incumbent - 1) <ℤ pos 0 → (routes : List Route) → IsCheapest pool customers trucks fewest incumbent incumbent routes
none_cheaper prices scale customers trucks fewest incumbent pool valid none some negative routes = record {
  most = omega arith;
  least = λ others choice many. omega (arith, some, none_in_gap prices scale customers trucks fewest (incumbent - 1) pool valid none negative others choice many);
  attained = λ below. absurd (omega arith);
}

-- what is not kept is above the incumbent
pub kept_least : (prices : Prices) (scale customers trucks fewest incumbent : ℕ) (pool : List Route) → AreValid prices pool customers fewest → NoneNegative prices scale pool → 0 < incumbent
    → (limit : ℕ) → limit ≤ incumbent → NoneBelow (filter (is_within_gap prices scale (gap_of prices scale customers trucks (incumbent - 1))) pool) customers trucks fewest limit → NoneBelow pool customers trucks fewest limit
kept_least prices scale customers trucks fewest incumbent pool valid none some limit most kept = λ routes choice many. elim (cases_lt (cost_of routes) incumbent) [
  | inl cheap ↦ kept routes (kept_choice prices scale customers trucks fewest (incumbent - 1) pool routes valid none choice many (omega (arith, cheap))) many
  | inr dear ↦ omega (arith, dear, most)
]

-- no choice costs less than a number that is above the lower bound by less than one
pub whole_bound : (prices : Prices) (scale customers trucks fewest bound : ℕ) (pool : List Route) → AreValid prices pool customers fewest → NoneNegative prices scale pool
    → (0 < bound → gap_of prices scale customers trucks (bound - 1) <ℤ pos 0) → NoneBelow pool customers trucks fewest bound
whole_bound prices scale customers trucks fewest bound pool valid none negative = λ routes choice many. elim (cases_lt 0 bound) [
  | inl some ↦ omega (arith, some, none_in_gap prices scale customers trucks fewest (bound - 1) pool valid none (negative some) routes choice many)
  | inr zero ↦ omega (arith, zero)
]

pub filtered_parts : {X : Type 0} (p : X → Bool) (xs : List X) → All (Contains xs) (filter p xs)
filtered_parts p xs = All-filter p (Contains xs) xs (All-contains_itself xs)

sum_by_map : {X Y : Type 0} (f : Y → ℕ) (h : X → Y) (xs : List X) → sum_by f (map h xs) ≡ sum_by (λ x. f (h x)) xs
sum_by_map f h [] = refl
sum_by_map f h (x ∷ xs) = sum_by-cons f (h x) (map h xs) ∙ (ap (λ n. f (h x) + n) (sum_by_map f h xs) ∙ sym (sum_by-cons (λ x. f (h x)) x xs))

-- the values of the columns are what the routes cost by the prices
values_total : (f : Route → ℤ) (routes : List Route) → All (λ r. pos 0 ≤ℤ f r) routes → pos (sum_by (λ r. unsigned_abs (f r)) routes) ≡ total f routes
values_total f [] none = refl
values_total f (r ∷ routes) none =
    let here = none 0 r (omega arith) in
    let rest = values_total f routes (λ k d lt. none (suc k) d (omega arith)) in
    omega (arith, ints, here, rest, sum_by-cons (λ r. unsigned_abs (f r)) r routes)

mapped_known : {X Y : Type 0} (h : X → Y) (xs : List X) (x : X) → Contains xs x → Contains (map h xs) (h x)
mapped_known h xs x (k, lt, is) = (k, omega (arith, lt, length-map xs h), get_or-map h xs k x (h x) lt ∙ ap h is)

route_known : (prices : Prices) (scale : ℕ) (pool : List Route) (column : Column) → Contains (map (column_of prices scale) pool) column → Contains pool (route_of column)
route_known prices scale pool column (k, lt, is) =
    let inside : k < length pool = omega (arith, lt, length-map pool (column_of prices scale)) in
    (k, inside, ap route_of (sym (get_or-map (column_of prices scale) pool k (route_of column) column inside) ∙ is))

values_within : (value scale cost incumbent : ℕ) (lower_bound rest gap : ℤ) → pos value ≡ rest → (lower_bound +ℤ rest) ≤ℤ pos (scale * cost) → scale * cost ≤ scale * (incumbent - 1) → gap ≡ pos (scale * (incumbent - 1)) -ℤ lower_bound → pos 0 ≤ℤ gap → value ≤ unsigned_abs gap
values_within value scale cost incumbent lower_bound rest gap e law le is some = omega (arith, ints)

-- the search over the columns of what is kept
pub cheapest_columns : (prices : Prices) (scale customers trucks fewest incumbent found : ℕ) (pool : List Route) (parts : List Column) → AreValid prices pool customers fewest → NoneNegative prices scale pool → 0 < incumbent
    → pos 0 ≤ℤ gap_of prices scale customers trucks (incumbent - 1)
    → IsLeast (map (column_of prices scale) (filter (is_within_gap prices scale (gap_of prices scale customers trucks (incumbent - 1))) pool)) customers trucks incumbent (unsigned_abs (gap_of prices scale customers trucks (incumbent - 1))) found parts
    → IsCheapest pool customers trucks fewest incumbent found (map route_of parts)
cheapest_columns prices scale customers trucks fewest incumbent found pool parts valid none some is_gap answer =
    let gap = gap_of prices scale customers trucks (incumbent - 1) in
    let kept = filter (is_within_gap prices scale gap) pool in
    record {
      most = answer.most;
      least = λ routes choice many. elim (cases_lt (cost_of routes) incumbent) [
        | inl cheap ↦
            let inside = kept_choice prices scale customers trucks fewest (incumbent - 1) pool routes valid none choice many (omega (arith, cheap)) in
            let columns = map (column_of prices scale) routes in
            let nonneg : All (λ r. pos 0 ≤ℤ reduced_cost_of prices scale r) routes = All-weaker (Contains pool) (λ r. pos 0 ≤ℤ reduced_cost_of prices scale r) (λ r known. All-contains (λ r. pos 0 ≤ℤ reduced_cost_of prices scale r) pool r none known) routes choice.known in
            let value : columns_reduced_cost columns ≤ unsigned_abs gap = values_within (columns_reduced_cost columns) scale (cost_of routes) incumbent (lower_bound_of prices customers trucks) (total (reduced_cost_of prices scale) routes) gap
            (ap (λ n. pos n) (sum_by_map (λ (c : Column). c.reduced_cost) (column_of prices scale) routes) ∙ values_total (reduced_cost_of prices scale) routes nonneg)
            (priced_choice prices scale customers trucks fewest pool routes valid choice many) (mul-le-mul_left scale (omega (arith, cheap))) refl is_gap in
            let is_choice : IsChoice column_set (map (column_of prices scale) kept) customers trucks columns = record {
              known = All-map (Contains (map (column_of prices scale) kept)) (column_of prices scale) routes
                  (All-weaker (Contains kept) (λ r. Contains (map (column_of prices scale) kept) (column_of prices scale r)) (mapped_known (column_of prices scale) kept) routes inside.known);
              once = λ i. sum_by_map (λ (c : Column). bit_at c.set i) (column_of prices scale) routes ∙ choice.once i;
              few = omega (arith, length-map routes (column_of prices scale), choice.few);
            } in
            omega (arith, answer.least columns is_choice value, sum_by_map (λ (c : Column). c.cost) (column_of prices scale) routes)
        | inr dear ↦ omega (arith, dear, answer.most)
      ];
      attained = λ below.
          let a = answer.attained below in (
            record {
              known = All-map (Contains pool) route_of parts (All-weaker (Contains (map (column_of prices scale) kept)) (λ c. Contains pool (route_of c))
                  (λ c known. filtered_known (is_within_gap prices scale gap) pool (route_of c) (route_known prices scale kept c known)) parts a.0.known);
              once = λ i. sum_by_map (λ (r : Route). bit_at r.set i) route_of parts ∙ a.0.once i;
              few = omega (arith, length-map parts route_of, a.0.few);
            },
            sum_by_map (λ (r : Route). r.cost) route_of parts ∙ a.1,
          );
    }

-- what is known of the list of costs is known of the pool
pub none_negative_pool : (prices : Prices) (scale : ℕ) (pool : List Route) (costs : List ℤ) → costs ≡ map (reduced_cost_of prices scale) pool → All (λ cost. pos 0 ≤ℤ cost) costs → NoneNegative prices scale pool
none_negative_pool prices scale pool costs are none = λ k d lt.
    subst (λ z. pos 0 ≤ℤ z) (ap (λ cs. get_or cs k (pos 0)) are ∙ get_or-map (reduced_cost_of prices scale) pool k d (pos 0) lt)
    (none k (pos 0) (omega (arith, lt, length-map pool (reduced_cost_of prices scale), ap length are)))
