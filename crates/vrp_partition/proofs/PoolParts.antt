-- Parts of a pool that have the choices that are looked for.
use Rattle.std.proofs.Common.{◌≡◌, ℕ, zero, suc, ◌+◌, ◌*◌, ◌<◌, ◌≤◌, ◌⊎◌, inl, inr, Bool, true, false, cond, not, ◌||◌, ◌==◌, List, [], ◌∷◌, length, get_or, refl, sym, ◌∙◌, ap, arith, bit_and, min, ℤ, pos, ◌+ℤ◌, ◌-ℤ◌, ◌≤ℤ◌, ◌<ℤ◌, int_le}
use Rattle.std.specs.Int.{bit_at}
use Rattle.std.specs.List.{All, Contains, filter, sum_by}
use Rattle.std.proofs.Math.Nat.{mul-le-mul_left}
use Rattle.std.proofs.lemmas.Bool.Decides.{nat_tests}
use Rattle.std.proofs.lemmas.Bool.{cases_lt}
use Rattle.std.proofs.lemmas.Int.{ints}
use Rattle.std.proofs.lemmas.List.Elements.{All-nil, All-cons, All-contains, All-weaker}
use Rattle.std.proofs.lemmas.List.Sums.{sum_by-cons, get_or-le-sum_by}
use Rattle.std.proofs.lemmas.Nat.Bits.{bit_at_and, bit_at-lt, bit_at-zero, same_from_bits}
use Rattle.vrp_partition.specs.Choice.{IsChoice, NoneWithin, cost_of, routes_to, set_of, is_together, is_apart}
use Rattle.vrp_partition.specs.Prices.{Prices, AreValid, NoneNegative, total, reduced_cost_of, lower_bound_of, gap_of, is_within_gap}
use Rattle.vrp_partition.specs.declared.route.Route.{Route}
use Rattle.vrp_partition.proofs.PricedChoices.{priced_choice}

pub contains_filter : {X : Type 0} (p : X → Bool) (xs : List X) (x : X) → Contains xs x → p x ≡ true → Contains (filter p xs) x
contains_filter p [] x (k, lt, e) passes = absurd (omega (arith, lt))
contains_filter p (y ∷ ys) x (zero, lt, e) passes =
    let here : p y ≡ true = ap p e ∙ passes in rw here (0, omega arith, e)
contains_filter p (y ∷ ys) x (suc k, lt, e) passes =
    let rest = contains_filter p ys x (k, omega (arith, lt), e) passes in
    elim (p y) as (λ b. Contains (cond b (y ∷ filter p ys) (filter p ys)) x) [ true ↦ (suc rest.0, omega (arith, rest.1), rest.2) | false ↦ rest ]

pub filtered_choice : {X : Type 0} (set : X → ℕ) (p : X → Bool) (pool : List X) (customers trucks : ℕ) (parts : List X) → IsChoice set pool customers trucks parts → All (λ x. p x ≡ true) parts → IsChoice set (filter p pool) customers trucks parts
filtered_choice set p pool customers trucks parts choice passes =
    record { known = λ k d lt. contains_filter p pool (get_or parts k d) (choice.known k d lt) (passes k d lt); once = choice.once; few = choice.few }

nonneg_total : {X : Type 0} (f : X → ℤ) (xs : List X) → ((k : ℕ) (d : X) → k < length xs → pos 0 ≤ℤ f (get_or xs k d)) → pos 0 ≤ℤ total f xs
nonneg_total f [] each = omega (arith, ints)
nonneg_total f (x ∷ xs) each = let here = each 0 x (omega arith) in let rest = nonneg_total f xs (λ k d lt. each (suc k) d (omega arith)) in omega (arith, ints)

part_of_total : {X : Type 0} (f : X → ℤ) (xs : List X) → ((k : ℕ) (d : X) → k < length xs → pos 0 ≤ℤ f (get_or xs k d)) → (k : ℕ) (d : X) → k < length xs → f (get_or xs k d) ≤ℤ total f xs
part_of_total f [] each k d lt = absurd (omega arith)
part_of_total f (x ∷ xs) each zero d lt = let rest = nonneg_total f xs (λ k d lt. each (suc k) d (omega arith)) in omega (arith, ints)
part_of_total f (x ∷ xs) each (suc k) d lt = let here = each 0 x (omega arith) in let rest = part_of_total f xs (λ k d lt. each (suc k) d (omega arith)) k d (omega arith) in omega (arith, ints)

int_le_true : (a b : ℤ) → a ≤ℤ b → int_le a b ≡ true
int_le_true a b h = grind (arith, ints)

none_negative_parts : (prices : Prices) (scale customers trucks : ℕ) (pool routes : List Route) → NoneNegative prices scale pool → IsChoice set_of pool customers trucks routes → (k : ℕ) (d : Route) → k < length routes → pos 0 ≤ℤ reduced_cost_of prices scale (get_or routes k d)
none_negative_parts prices scale customers trucks pool routes none choice = All-weaker (Contains pool) (λ r. pos 0 ≤ℤ reduced_cost_of prices scale r) (λ r known. All-contains (λ r. pos 0 ≤ℤ reduced_cost_of prices scale r) pool r none known) routes choice.known

below_gap : (scale cost limit : ℕ) (lower_bound rest one : ℤ) → (lower_bound +ℤ rest) ≤ℤ pos (scale * cost) → scale * cost ≤ scale * limit → one ≤ℤ rest → one ≤ℤ (pos (scale * limit) -ℤ lower_bound)
below_gap scale cost limit lower_bound rest one law less part = omega (arith, ints)

pub kept_choice : (prices : Prices) (scale customers trucks fewest limit : ℕ) (pool routes : List Route) → AreValid prices pool customers fewest → NoneNegative prices scale pool → IsChoice set_of pool customers trucks routes → fewest ≤ routes_to customers routes → cost_of routes ≤ limit → IsChoice set_of (filter (is_within_gap prices scale (gap_of prices scale customers trucks limit)) pool) customers trucks routes
kept_choice prices scale customers trucks fewest limit pool routes valid none choice many within =
    let nonneg = none_negative_parts prices scale customers trucks pool routes none choice in
    filtered_choice set_of (is_within_gap prices scale (gap_of prices scale customers trucks limit)) pool customers trucks routes choice
    (λ k d lt. int_le_true (reduced_cost_of prices scale (get_or routes k d)) (gap_of prices scale customers trucks limit)
    (below_gap scale (cost_of routes) limit (lower_bound_of prices customers trucks) (total (reduced_cost_of prices scale) routes) (reduced_cost_of prices scale (get_or routes k d))
    (priced_choice prices scale customers trucks fewest pool routes valid choice many) (mul-le-mul_left scale within) (part_of_total (reduced_cost_of prices scale) routes nonneg k d lt)))

pub none_in_gap : (prices : Prices) (scale customers trucks fewest limit : ℕ) (pool : List Route) → AreValid prices pool customers fewest → NoneNegative prices scale pool → gap_of prices scale customers trucks limit <ℤ pos 0 → NoneWithin pool customers trucks fewest limit
none_in_gap prices scale customers trucks fewest limit pool valid none negative routes choice many =
    elim (cases_lt limit (cost_of routes)) [
      | inl more ↦ more
      | inr within ↦ absurd (contradict (below_gap scale (cost_of routes) limit (lower_bound_of prices customers trucks) (total (reduced_cost_of prices scale) routes) (pos 0)
          (priced_choice prices scale customers trucks fewest pool routes valid choice many) (mul-le-mul_left scale within) (nonneg_total (reduced_cost_of prices scale) routes (none_negative_parts prices scale customers trucks pool routes none choice))) negative)
    ]
  where
    contradict : {a : ℤ} → pos 0 ≤ℤ a → a <ℤ pos 0 → ⊥
    contradict p q = omega (arith, ints)

-- nothing of the group is in a set
no_bits : (set group : ℕ) → ((i : ℕ) → bit_at group i ≡ 1 → bit_at set i ≡ 0) → bit_and set group ≡ 0
no_bits set group none = same_from_bits (bit_and set group) 0 (λ i. bit_at_and set group i ∙ (zero_min (bit_at set i) (bit_at group i) (bit_at-lt group i) (none i) ∙ sym (bit_at-zero i)))
  where
    zero_min : (a b : ℕ) → b < 2 → (b ≡ 1 → a ≡ 0) → min a b ≡ 0
    zero_min a b lt f = grind arith

-- all of the group is in a set
all_bits : (set group i : ℕ) → bit_and set group ≡ group → bit_at group i ≡ 1 → bit_at set i ≡ 1
all_bits set group i same bit =
    let both : min (bit_at set i) (bit_at group i) ≡ bit_at group i = sym (bit_at_and set group i) ∙ ap (λ n. bit_at n i) same in
    omega (arith, both, bit, bit_at-lt set i)

-- either no set has all of the group, or one has and the others have none of it
data Branch (group : ℕ) {X : Type 0} (set : X → ℕ) (xs : List X) : Type 0 where
  Apart : All (λ x. not (bit_and (set x) group == group) ≡ true) xs → Branch group set xs
  Together : All (λ x. ((bit_and (set x) group == group) || (bit_and (set x) group == 0)) ≡ true) xs → ((i : ℕ) → bit_at group i ≡ 1 → 1 ≤ sum_by (λ x. bit_at (set x) i) xs) → Branch group set xs

by_bool : {P : Type 0} (b : Bool) → (b ≡ true → P) → (b ≡ false → P) → P
by_bool true f g = f refl
by_bool false f g = g refl

all_together : (n group : ℕ) → (n == group) ≡ true → ((n == group) || (n == 0)) ≡ true
all_together n group e = rw e refl

none_together : (n group : ℕ) → n ≡ 0 → ((n == group) || (n == 0)) ≡ true
none_together n group e = grind (arith, nat_tests)

same : (n group : ℕ) → (n == group) ≡ true → n ≡ group
same n group e = grind (arith, nat_tests)

branch_of : {X : Type 0} (group : ℕ) (set : X → ℕ) (xs : List X) → ((i : ℕ) → sum_by (λ x. bit_at (set x) i) xs ≤ 1) → Branch group set xs
branch_of group set [] once = Apart (All-nil (λ x. not (bit_and (set x) group == group) ≡ true))
branch_of group set (x ∷ xs) once =
    let split : (i : ℕ) → bit_at (set x) i + sum_by (λ x. bit_at (set x) i) xs ≤ 1 = λ i. omega (arith, once i, sum_by-cons (λ x. bit_at (set x) i) x xs) in
    by_bool (bit_and (set x) group == group)
    (λ has. Together
    (All-cons (λ x. ((bit_and (set x) group == group) || (bit_and (set x) group == 0)) ≡ true) x xs (all_together (bit_and (set x) group) group has)
    (λ k d lt. none_together (bit_and (set (get_or xs k d)) group) group (no_bits (set (get_or xs k d)) group
    (λ i bit. omega (arith, split i, all_bits (set x) group i (same (bit_and (set x) group) group has) bit, get_or-le-sum_by (λ x. bit_at (set x) i) xs k d lt)))))
    (λ i bit. omega (arith, sum_by-cons (λ x. bit_at (set x) i) x xs, all_bits (set x) group i (same (bit_and (set x) group) group has) bit)))
    (λ lacks. elim (branch_of group set xs (λ i. omega (arith, split i))) as (λ _. Branch group set (x ∷ xs)) [
      | Apart apart ↦ Apart (All-cons (λ x. not (bit_and (set x) group == group) ≡ true) x xs (ap not lacks) apart)
      | Together together some ↦ Together
          (All-cons (λ x. ((bit_and (set x) group == group) || (bit_and (set x) group == 0)) ≡ true) x xs
          (none_together (bit_and (set x) group) group (no_bits (set x) group (λ i bit. omega (arith, split i, some i bit)))) together)
          (λ i bit. omega (arith, sum_by-cons (λ x. bit_at (set x) i) x xs, some i bit))
    ])

pub branched_choice : (group customers trucks : ℕ) (pool routes : List Route) → IsChoice set_of pool customers trucks routes → IsChoice set_of (filter (is_together group) pool) customers trucks routes ⊎ IsChoice set_of (filter (is_apart group) pool) customers trucks routes
branched_choice group customers trucks pool routes choice =
    elim (branch_of group set_of routes (λ i. omega (arith, choice.once i, bit_at-lt customers i))) [
      | Apart apart ↦ inr (filtered_choice set_of (is_apart group) pool customers trucks routes choice apart)
      | Together together some ↦ inl (filtered_choice set_of (is_together group) pool customers trucks routes choice together)
    ]
