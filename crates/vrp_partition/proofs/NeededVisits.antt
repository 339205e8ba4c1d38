-- Sets that so many routes have to come to, by their demands.
use Rattle.std.proofs.Common.{◌≡◌, ℕ, ◌+◌, ◌*◌, ◌/◌, ◌%◌, ◌<◌, ◌≤◌, List, [], ◌∷◌, refl, sym, ◌∙◌, ap, subst, arith, bit_and, if◌then◌else◌, not, ◌==◌}
use Rattle.std.specs.List.{All, Contains, sum_by}
use Rattle.std.proofs.Math.Nat.{zero-mul, one-mul, mul_assoc, mul-le-mul_right, mul-le-mul_left}
use Rattle.std.proofs.lemmas.Bool.Decides.{nat_tests}
use Rattle.std.proofs.lemmas.Nat.{and_comm}
use Rattle.std.proofs.lemmas.List.Elements.{All-contains, All-weaker}
use Rattle.vrp_partition.specs.Choice.{comes_to, routes_to, set_of}
use Rattle.vrp_partition.specs.Prices.{IsGranted, IsNeeded, IsVisited, load_of}
use Rattle.vrp_partition.specs.declared.prices.Cut.{Cut}
use Rattle.vrp_partition.specs.declared.route.Route.{Route}
use Rattle.vrp_partition.proofs.Weights.{sum_by_same, sum_by_times, load_of_once, and_lowest, and_half}
use Rattle.vrp_partition.proofs.PricedChoices.{sum_by_le}

-- the demands of those in the set, and nothing of the others
abbrev pub masked : List ℕ → ℕ → List ℕ
masked [] set = []
masked (d ∷ ds) set = set % 2 * d ∷ masked ds (set / 2)

load_of_both : (ds : List ℕ) (set other : ℕ) → load_of ds (bit_and set other) ≡ load_of (masked ds other) set
load_of_both [] set other = refl
load_of_both (d ∷ ds) set other =
    ap (λ n. n * d + load_of ds (bit_and set other / 2)) (and_lowest set other)
    ∙ (ap (λ n. n + load_of ds (bit_and set other / 2)) (mul_assoc (set % 2) (other % 2) d)
    ∙ ap (λ n. set % 2 * (other % 2 * d) + n) (ap (load_of ds) (and_half set other) ∙ load_of_both ds (set / 2) (other / 2)))

load_of_part : (ds : List ℕ) (set other : ℕ) → load_of (masked ds other) set ≤ load_of ds set
load_of_part [] set other = omega arith
load_of_part (d ∷ ds) set other = omega (arith, load_of_part ds (set / 2) (other / 2), mul-le-mul_left (set % 2) (part other d))
  where
    part : (n d : ℕ) → n % 2 * d ≤ d
    part n d = let bit : n % 2 ≤ 1 = omega arith in omega (arith, mul-le-mul_right d bit, one-mul d)

pub load_of_none : (ds : List ℕ) → load_of ds 0 ≡ 0
load_of_none [] = refl
load_of_none (d ∷ ds) = omega (arith, load_of_none ds, zero-mul d)

counted : (n capacity load : ℕ) → (n ≡ 0 → load ≡ 0) → load ≤ capacity → load ≤ (if not (n == 0) then 1 else 0) * capacity
counted n capacity load none fits = grind (arith, nat_tests)

carried : (ds : List ℕ) (capacity set other : ℕ) → load_of ds set ≤ capacity → load_of ds (bit_and set other) ≤ (if comes_to other set then 1 else 0) * capacity
carried ds capacity set other fits =
    counted (bit_and set other) capacity (load_of ds (bit_and set other)) (λ none. ap (load_of ds) none ∙ load_of_none ds) (omega (arith, load_of_both ds set other, load_of_part ds set other))

more : (count routes capacity load : ℕ) → load ≤ routes * capacity → count * capacity < load + capacity → count ≤ routes
more count routes capacity load carry need = grind arith

pub needed_visits : (demands : List ℕ) (capacity customers fewest : ℕ) (pool : List Route) (cut : Cut) → All (λ r. load_of demands r.set ≤ capacity) pool → IsNeeded demands capacity customers cut → IsVisited pool customers fewest cut
needed_visits demands capacity customers fewest pool cut fit need trucks routes choice many =
    let each = sum_by_le (λ r. load_of demands (bit_and (set_of r) cut.set)) (λ r. (if comes_to cut.set r.set then 1 else 0) * capacity) routes
    (All-weaker (Contains pool) (λ r. load_of demands (bit_and (set_of r) cut.set) ≤ (if comes_to cut.set r.set then 1 else 0) * capacity)
    (λ r known. carried demands capacity (set_of r) cut.set (All-contains (λ (r : Route). load_of demands r.set ≤ capacity) pool r fit known)) routes choice.known) in
    let same = sum_by_same (λ r. load_of demands (bit_and (set_of r) cut.set)) (λ r. load_of (masked demands cut.set) (set_of r)) routes (λ r. load_of_both demands (set_of r) cut.set) in
    let load = load_of_once (masked demands cut.set) set_of routes customers choice.once in
    more cut.count (sum_by (λ r. if comes_to cut.set r.set then 1 else 0) routes) capacity (load_of demands cut.set)
    (omega (arith, each, same, load, load_of_both demands customers cut.set, ap (load_of demands) (and_comm customers cut.set ∙ need.within), sum_by_times (λ r. if comes_to cut.set r.set then 1 else 0) capacity routes))
    need.carry

-- or by what the choices in question have
pub granted_visits : (customers fewest : ℕ) (pool : List Route) (cut : Cut) → IsGranted customers fewest cut → IsVisited pool customers fewest cut
granted_visits customers fewest pool cut granted trucks routes choice many = subst (λ set. cut.count ≤ routes_to set routes) (sym granted.all) (omega (arith, granted.few, many))
