-- The law of prices.
use Rattle.std.proofs.Common.{◌≡◌, ℕ, zero, suc, ◌+◌, ◌*◌, ◌/◌, ◌%◌, ◌^◌, ◌<◌, ◌≤◌, true, false, List, [], ◌∷◌, length, sym, ◌∙◌, ap, arith, bit_and, count_ones, pos, ◌+ℤ◌, ◌≤ℤ◌, if◌then◌else◌, nat_le}
use Rattle.std.specs.Int.{bit_at}
use Rattle.std.specs.Int.Count.{ones_step}
use Rattle.std.specs.List.{All, sum_by}
use Rattle.std.proofs.Math.Nat.{suc-mul, zero-mul, one-mul, pow-suc, mul_comm, mul-le-mul_right}
use Rattle.std.proofs.lemmas.Int.{ints}
use Rattle.std.proofs.lemmas.List.Elements.{All-head, All-tail, All-weaker}
use Rattle.std.proofs.lemmas.List.Sums.{sum_by-cons, sum_by-le-sum_by}
use Rattle.std.proofs.lemmas.Bool.Decides.{nat_tests}
use Rattle.vrp_partition.specs.Choice.{IsChoice, comes_to, cost_of, routes_to, set_of}
use Rattle.vrp_partition.specs.Prices.{Prices, AreValid, load_of, IsVisited, total, dual_sum, has_two, charge, reward, charges, rewards, reduced_cost_of, lower_bound_of}
use Rattle.vrp_partition.specs.declared.prices.Cut.{Cut}
use Rattle.vrp_partition.specs.declared.route.Route.{Route}
use Rattle.vrp_partition.proofs.Weights.{sum_by_same, sum_by_sum, sum_by_times, sum_by_zeros, digits, load_of_once, ones_weigh, dual_sum_once}

-- rows and columns summed in either order
pub swapped : {X R : Type 0} (f : X → R → ℕ) (cuts : List R) (xs : List X) → sum_by (λ x. sum_by (f x) cuts) xs ≡ sum_by (λ r. sum_by (λ x. f x r) xs) cuts
swapped f [] xs = sum_by_zeros xs
swapped f (r ∷ cuts) xs =
    sum_by_same (λ x. sum_by (f x) (r ∷ cuts)) (λ x. f x r + sum_by (f x) cuts) xs (λ x. sum_by-cons (f x) r cuts)
    ∙ (sum_by_sum (λ x. f x r) (λ x. sum_by (f x) cuts) xs
    ∙ (ap (λ n. sum_by (λ x. f x r) xs + n) (swapped f cuts xs) ∙ sym (sum_by-cons (λ r. sum_by (λ x. f x r) xs) r cuts)))

pub sum_by_le : {R : Type 0} (f h : R → ℕ) (cuts : List R) → All (λ r. f r ≤ h r) cuts → sum_by f cuts ≤ sum_by h cuts
sum_by_le f h [] each = omega arith
sum_by_le f h (r ∷ cuts) each = omega (arith, sum_by-cons f r cuts, sum_by-cons h r cuts, All-head (λ r. f r ≤ h r) r cuts each, sum_by_le f h cuts (All-tail (λ r. f r ≤ h r) r cuts each))

digits_le : (k set other : ℕ) → load_of (digits k other) set ≤ count_ones other
digits_le zero set other = omega arith
digits_le (suc k) set other = omega (arith, ones_step other, digits_le k (set / 2) (other / 2), mul-le-mul_right (other % 2) (one_at_most set), one-mul (other % 2))
  where
    one_at_most : (n : ℕ) → n % 2 ≤ 1
    one_at_most n = omega arith

below_power : (n : ℕ) → n < 2 ^ n
below_power zero = omega arith
below_power (suc n) = omega (arith, pow-suc 2 n, below_power n)

two_at_most : (n : ℕ) → (if nat_le 2 n then 1 else 0) * 2 ≤ n
two_at_most n = grind (arith, nat_tests)

charged : (cut : Cut) (set : ℕ) → charge set cut ≡ (if has_two cut.set set then 1 else 0) * cut.price
charged cut set = elim (has_two cut.set set) as (λ b. (if b then cut.price else 0) ≡ (if b then 1 else 0) * cut.price) [ true ↦ sym (one-mul cut.price) | false ↦ sym (zero-mul cut.price) ]

rewarded : (cut : Cut) (set : ℕ) → reward set cut ≡ (if comes_to cut.set set then 1 else 0) * cut.price
rewarded cut set = elim (comes_to cut.set set) as (λ b. (if b then cut.price else 0) ≡ (if b then 1 else 0) * cut.price) [ true ↦ sym (one-mul cut.price) | false ↦ sym (zero-mul cut.price) ]

-- one route at most has two of three
two_once : {X : Type 0} (other : ℕ) (set : X → ℕ) (xs : List X) (customers : ℕ) → count_ones other ≤ 3 → ((i : ℕ) → sum_by (λ x. bit_at (set x) i) xs ≡ bit_at customers i) → sum_by (λ x. if has_two other (set x) then 1 else 0) xs ≤ 1
two_once other set xs customers three once =
    let counted = sum_by_same (λ x. count_ones (bit_and (set x) other)) (λ x. load_of (digits other other) (set x)) xs (λ x. ones_weigh other (set x) other (below_power other)) in
    let most = sum_by-le-sum_by (λ x. (if has_two other (set x) then 1 else 0) * 2) (λ x. count_ones (bit_and (set x) other)) xs (λ x. two_at_most (count_ones (bit_and (set x) other))) in
    omega (arith, most, counted, sum_by_times (λ x. if has_two other (set x) then 1 else 0) 2 xs, load_of_once (digits other other) set xs customers once, digits_le other customers other)

charges_once : {X : Type 0} (cuts : List Cut) (set : X → ℕ) (xs : List X) (customers : ℕ) → All (λ cut. count_ones cut.set ≤ 3) cuts → ((i : ℕ) → sum_by (λ x. bit_at (set x) i) xs ≡ bit_at customers i) → sum_by (λ x. charges cuts (set x)) xs ≤ sum_by (λ cut. cut.price) cuts
charges_once cuts set xs customers three once =
    let each = sum_by_le (λ cut. sum_by (λ x. charge (set x) cut) xs) (λ cut. cut.price) cuts
    (All-weaker (λ cut. count_ones cut.set ≤ 3) (λ cut. sum_by (λ x. charge (set x) cut) xs ≤ cut.price)
    (λ cut few. omega (
      arith,
      sum_by_same (λ x. charge (set x) cut) (λ x. (if has_two cut.set (set x) then 1 else 0) * cut.price) xs (λ x. charged cut (set x)),
      sum_by_times (λ x. if has_two cut.set (set x) then 1 else 0) cut.price xs,
      mul-le-mul_right cut.price (two_once cut.set set xs customers few once),
      one-mul cut.price,
    ))
    cuts three) in
    omega (arith, swapped (λ x cut. charge (set x) cut) cuts xs, each)

rewards_all : {X : Type 0} (cuts : List Cut) (set : X → ℕ) (xs : List X) → All (λ cut. cut.count ≤ sum_by (λ x. if comes_to cut.set (set x) then 1 else 0) xs) cuts → sum_by (λ cut. cut.count * cut.price) cuts ≤ sum_by (λ x. rewards cuts (set x)) xs
rewards_all cuts set xs visited =
    let each = sum_by_le (λ cut. cut.count * cut.price) (λ cut. sum_by (λ x. reward (set x) cut) xs) cuts
    (All-weaker (λ cut. cut.count ≤ sum_by (λ x. if comes_to cut.set (set x) then 1 else 0) xs) (λ cut. cut.count * cut.price ≤ sum_by (λ x. reward (set x) cut) xs)
    (λ cut come. omega (
      arith,
      sum_by_same (λ x. reward (set x) cut) (λ x. (if comes_to cut.set (set x) then 1 else 0) * cut.price) xs (λ x. rewarded cut (set x)),
      sum_by_times (λ x. if comes_to cut.set (set x) then 1 else 0) cut.price xs,
      mul-le-mul_right cut.price come,
    ))
    cuts visited) in
    omega (arith, swapped (λ x cut. reward (set x) cut) cuts xs, each)

-- what the routes cost by the prices, summed
summed : (prices : Prices) (scale : ℕ) (routes : List Route) → total (reduced_cost_of prices scale) routes +ℤ total (λ r. dual_sum prices.duals r.set) routes +ℤ pos (sum_by (λ r. rewards prices.capacity_cuts r.set) routes) ≡ pos (sum_by (λ r. r.cost * scale) routes + sum_by (λ r. charges prices.subset_rows r.set) routes + length routes * prices.truck_price)
summed prices scale [] = omega (arith, ints, zero-mul prices.truck_price)
summed prices scale (r ∷ routes) =
    let rest = summed prices scale routes in
    omega (arith, ints, suc-mul (length routes) prices.truck_price, sum_by-cons (λ r. rewards prices.capacity_cuts r.set) r routes, sum_by-cons (λ r. r.cost * scale) r routes, sum_by-cons (λ r. charges prices.subset_rows r.set) r routes, mul_comm scale r.cost)

pub priced_choice : (prices : Prices) (scale customers trucks fewest : ℕ) (pool routes : List Route) → AreValid prices pool customers fewest → IsChoice set_of pool customers trucks routes → fewest ≤ routes_to customers routes → (lower_bound_of prices customers trucks +ℤ total (reduced_cost_of prices scale) routes) ≤ℤ pos (scale * cost_of routes)
priced_choice prices scale customers trucks fewest pool routes valid choice many =
    let a = summed prices scale routes in
    let b = dual_sum_once prices.duals set_of routes customers choice.once in
    let c = charges_once prices.subset_rows set_of routes customers valid.three choice.once in
    let d = rewards_all prices.capacity_cuts set_of routes (All-weaker (IsVisited pool customers fewest) (λ cut. cut.count ≤ routes_to cut.set routes) (λ cut v. v trucks routes choice many) prices.capacity_cuts valid.visited) in
    omega (arith, ints, mul-le-mul_right prices.truck_price choice.few, sum_by_times (λ (r : Route). r.cost) scale routes, mul_comm scale (cost_of routes))
