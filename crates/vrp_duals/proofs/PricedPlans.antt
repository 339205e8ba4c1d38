-- The law of prices: what the routes of a plan cost together.
use Rattle.std.proofs.Common.{◌≡◌, ◌≢◌, inl, inr, ℕ, zero, suc, ◌+◌, ◌-◌, ◌*◌, ◌/◌, ◌%◌, ◌<◌, ◌≤◌, min, count_ones, List, [], ◌∷◌, length, refl, sym, ◌∙◌, ap, subst, arith, ℤ, pos, ◌+ℤ◌, ◌-ℤ◌, ◌*ℤ◌, ◌≤ℤ◌}
use Rattle.std.specs.Int.{bit_at}
use Rattle.std.specs.Int.Count.{ones_step}
use Rattle.std.specs.List.{All, Contains, concat, range_with_len, sum_by}
use Rattle.std.proofs.Math.Nat.{mul-le-mul_right, mul-le-mul_left, mul_comm}
use Rattle.std.proofs.Math.IntN.{zero-*ℤ}
use Rattle.std.proofs.lemmas.Int.{ints}
use Rattle.std.proofs.lemmas.List.{length-append}
use Rattle.std.proofs.lemmas.List.Elements.{All-head, All-tail, All-weaker}
use Rattle.std.proofs.lemmas.List.Sorted.{length_permutation, sum_by-IsPermutation}
use Rattle.std.proofs.lemmas.List.Sums.{sum_by-append, sum_by-cons}
use Rattle.std.proofs.lemmas.Nat.Bits.{bit_at-lt, bit_at-suc, bit_at_lowest}
use Rattle.vrp_model.specs.Problem.{Problem, customers, place_count}
use Rattle.vrp_model.specs.Route.{IsLawful, plan_cost, route_cost}
use Rattle.vrp_duals.specs.Duals.{AreDualsOf, DualsOf, IsRemembered, Obeys, entry_payment, int_sum_by, low_of, most_pairs, pairs_of, plan_entries, price_of, reduced_by, route_entries, row_charge, state_of, turns_of}
use Rattle.vrp_duals.specs.declared.rows.EntryRow.{EntryRow}
use Rattle.vrp_duals.specs.declared.rows.SubsetRow.{SubsetRow}
use Rattle.vrp_duals.proofs.ListSums.{int_sum_append, int_sum_le, int_sum_permutation, int_sum_same, int_sum_sum, int_sum_zeros, sum_by_le, sum_by_same, sum_by_times, swapped, times-add, times_ge, times_le}

-- ---- subset rows

-- no more of the customers are in a set than it has
shifted : (f : ℕ → ℕ) (a n : ℕ) → sum_by f (range_with_len (a + 1) n) ≡ sum_by (λ j. f (suc j)) (range_with_len a n)
shifted f a zero = refl
shifted f a (suc n) = omega (arith, sum_by-cons f (a + 1) (range_with_len (a + 1 + 1) n), sum_by-cons (λ j. f (suc j)) a (range_with_len (a + 1) n), shifted f (a + 1) n, ap f (let same : a + 1 ≡ suc a = omega arith in same))

bits_counted : (set n : ℕ) → sum_by (bit_at set) (range_with_len 0 n) ≤ count_ones set
bits_counted set zero = omega arith
bits_counted set (suc n) = omega (arith, sum_by-cons (bit_at set) 0 (range_with_len 1 n), shifted (bit_at set) 0 n, sum_by_same (λ j. bit_at set (suc j)) (bit_at (set / 2)) (range_with_len 0 n) (λ j. bit_at-suc set j), bits_counted (set / 2) n, ones_step set, bit_at_lowest set)

few_bits : (set places : ℕ) → sum_by (bit_at set) (range_with_len 1 (places - 1)) ≤ count_ones set
few_bits set zero = omega arith
few_bits set (suc n) =
    let all = bits_counted set (suc n) in
    let one : suc n - 1 ≡ n = omega arith in
    omega (arith, all, sum_by-cons (bit_at set) 0 (range_with_len 1 n), ap (λ k. sum_by (bit_at set) (range_with_len 1 k)) one)

-- each time takes two customers of the row
abbrev pub TakesTwo : (SubsetRow → List ℕ → ℕ) → Type 0
TakesTwo times = (row : SubsetRow) → IsRemembered row → (route : List ℕ) → 2 * times row route ≤ sum_by (bit_at row.customers) route

turns_and_state : (row : SubsetRow) → IsRemembered row → (route : List ℕ) → 2 * turns_of row route + state_of row route ≤ sum_by (bit_at row.customers) route
turns_and_state row within [] = omega arith
turns_and_state row within (stop ∷ route) =
    step (state_of row route) (bit_at row.memory stop) (bit_at row.customers stop) (turns_of row route) (sum_by (bit_at row.customers) route) (sum_by-cons (bit_at row.customers) stop route) (turns_and_state row within route) (within stop) (bit_at-lt row.memory stop)
  where
    step : (s m x n k : ℕ) {c : ℕ} → c ≡ x + k → 2 * n + s ≤ k → x ≤ m → m < 2 → 2 * (n + min s x) + (min s m + x) % 2 ≤ c
    step s zero zero n k e le a b = omega arith
    step s (suc zero) zero n k e le a b = omega arith
    step s (suc zero) (suc zero) n k e le a b = omega arith
    step s zero (suc x) n k e le a b = absurd (omega arith)
    step s (suc zero) (suc (suc x)) n k e le a b = absurd (omega arith)
    step s (suc (suc m)) x n k e le a b = absurd (omega arith)

pub turns_take_two : TakesTwo turns_of
turns_take_two row within route = omega (arith, turns_and_state row within route)

pub pairs_take_two : TakesTwo pairs_of
pairs_take_two row within route = half (sum_by (bit_at row.customers) route)
  where
    half : (n : ℕ) → 2 * (n / 2) ≤ n
    half n = omega arith

two_each : (times : SubsetRow → List ℕ → ℕ) → TakesTwo times → (row : SubsetRow) → IsRemembered row → (routes : List (List ℕ)) → 2 * sum_by (times row) routes ≤ sum_by (bit_at row.customers) (concat routes)
two_each times takes row within [] = omega arith
two_each times takes row within (route ∷ routes) = omega (arith, sum_by-cons (times row) route routes, sum_by-append (bit_at row.customers) route (concat routes), takes row within route, two_each times takes row within routes)

-- so in a plan as often as there are pairs
pairs_at_most : (times : SubsetRow → List ℕ → ℕ) → TakesTwo times → (p : Problem) (row : SubsetRow) → IsRemembered row → (routes : List (List ℕ)) → IsLawful p routes → sum_by (times row) routes ≤ most_pairs row
pairs_at_most times takes p row within routes lawful =
    half (sum_by (times row) routes) (count_ones row.customers) (omega (arith, two_each times takes row within routes, sum_by-IsPermutation (bit_at row.customers) (concat routes) (customers p) lawful.served, few_bits row.customers (place_count p)))
  where
    half : (n k : ℕ) → 2 * n ≤ k → n ≤ k / 2
    half n k le = omega arith

charged_at_most : (times : SubsetRow → List ℕ → ℕ) → TakesTwo times → (p : Problem) (rows : List SubsetRow) (routes : List (List ℕ)) → All IsRemembered rows → IsLawful p routes → sum_by (row_charge times rows) routes ≤ sum_by (λ row. most_pairs row * row.price) rows
charged_at_most times takes p rows routes are lawful =
    let each = sum_by_le (λ row. sum_by (λ route. times row route * row.price) routes) (λ (row : SubsetRow). most_pairs row * row.price) rows
    (All-weaker IsRemembered (λ row. sum_by (λ route. times row route * row.price) routes ≤ most_pairs row * row.price)
    (λ row within. omega (arith, sum_by_times (times row) row.price routes, mul-le-mul_right row.price (pairs_at_most times takes p row within routes lawful)))
    rows are) in
    omega (arith, swapped (λ route row. times row route * row.price) rows routes, each)

-- ---- customers

prices_once : (d : DualsOf) (routes : List (List ℕ)) → int_sum_by (λ route. int_sum_by (price_of d) route) routes ≡ int_sum_by (price_of d) (concat routes)
prices_once d [] = refl
prices_once d (route ∷ routes) =
    let rest = prices_once d routes in
    let here = int_sum_append (price_of d) route (concat routes) in
    omega (arith, ints)

-- ---- entry rows

-- what the entry rows pay to all routes is what they pay for all entries
paid_together : (entries : List EntryRow) (routes : List (List ℕ)) → int_sum_by (λ route. entry_payment entries route) routes ≡ int_sum_by (λ row. pos (plan_entries row.customers routes) *ℤ row.price) entries
paid_together entries [] = sym (int_sum_same (λ row. pos (plan_entries row.customers []) *ℤ row.price) (λ row. pos 0) entries (λ row. zero-*ℤ row.price) ∙ int_sum_zeros entries)
paid_together entries (route ∷ routes) =
    ap (λ z. entry_payment entries route +ℤ z) (paid_together entries routes)
    ∙ (sym (int_sum_sum (λ row. pos (route_entries row.customers route) *ℤ row.price) (λ row. pos (plan_entries row.customers routes) *ℤ row.price) entries)
    ∙ int_sum_same (λ row. pos (route_entries row.customers route) *ℤ row.price +ℤ pos (plan_entries row.customers routes) *ℤ row.price) (λ row. pos (plan_entries row.customers (route ∷ routes)) *ℤ row.price) entries
    (λ row. sym (ap (λ n. pos n *ℤ row.price) (sum_by-cons (route_entries row.customers) route routes) ∙ times-add (route_entries row.customers route) (plan_entries row.customers routes) row.price)))

entries_due : (entries : List EntryRow) (routes : List (List ℕ)) → All (Obeys routes) entries → int_sum_by (λ row. pos row.count *ℤ row.price) entries ≤ℤ int_sum_by (λ row. pos (plan_entries row.customers routes) *ℤ row.price) entries
entries_due entries routes obeyed =
    int_sum_le (λ row. pos row.count *ℤ row.price) (λ row. pos (plan_entries row.customers routes) *ℤ row.price) entries
    (All-weaker (Obeys routes) (λ row. (pos row.count *ℤ row.price) ≤ℤ (pos (plan_entries row.customers routes) *ℤ row.price)) one entries obeyed)
  where
    one : (row : EntryRow) → Obeys routes row → (pos row.count *ℤ row.price) ≤ℤ (pos (plan_entries row.customers routes) *ℤ row.price)
    one row (inl (some, le)) = times_le row.count (plan_entries row.customers routes) row.price some le
    one row (inr (none, le)) = times_ge row.count (plan_entries row.customers routes) row.price none le

-- ---- plans

-- the reduced costs, summed
summed : (times : SubsetRow → List ℕ → ℕ) (p : Problem) (d : DualsOf) (routes : List (List ℕ)) → int_sum_by (reduced_by times p d) routes +ℤ int_sum_by (λ route. int_sum_by (price_of d) route) routes +ℤ int_sum_by (λ route. entry_payment d.entries route) routes
    ≡ pos (sum_by (λ route. route_cost p route * d.scale) routes + sum_by (row_charge times d.rows) routes)
summed times p d [] = refl
summed times p d (route ∷ routes) =
    step (d.scale * route_cost p route) (row_charge times d.rows route) (int_sum_by (price_of d) route) (entry_payment d.entries route) (int_sum_by (reduced_by times p d) routes) (int_sum_by (λ route. int_sum_by (price_of d) route) routes) (int_sum_by (λ route. entry_payment d.entries route) routes)
    (sum_by (λ route. route_cost p route * d.scale) routes) (sum_by (row_charge times d.rows) routes)
    (sum_by-cons (λ route. route_cost p route * d.scale) route routes ∙ ap (λ n. n + sum_by (λ route. route_cost p route * d.scale) routes) (mul_comm (route_cost p route) d.scale))
    (sum_by-cons (row_charge times d.rows) route routes) (summed times p d routes)
  where
    step : (w c : ℕ) (y v r ys vs : ℤ) (ws cs : ℕ) {wws ccs : ℕ} → wws ≡ w + ws → ccs ≡ c + cs → r +ℤ ys +ℤ vs ≡ pos (ws + cs) → (pos (w + c) -ℤ y -ℤ v +ℤ r) +ℤ (y +ℤ ys) +ℤ (v +ℤ vs) ≡ pos (wws + ccs)
    step w c y v r ys vs ws cs e f rest = omega (arith, ints)

pub priced_plan : (times : SubsetRow → List ℕ → ℕ) → TakesTwo times → (p : Problem) (d : DualsOf) (routes : List (List ℕ)) → AreDualsOf p d → IsLawful p routes → All (Obeys routes) d.entries → (low_of d +ℤ int_sum_by (reduced_by times p d) routes) ≤ℤ pos (d.scale * plan_cost p routes)
priced_plan times takes p d routes duals lawful obeyed =
    bound (low_of d) (int_sum_by (reduced_by times p d) routes) (int_sum_by (λ route. int_sum_by (price_of d) route) routes) (int_sum_by (price_of d) (range_with_len 1 (length d.prices - 1))) (int_sum_by (λ route. entry_payment d.entries route) routes) (int_sum_by (λ row. pos row.count *ℤ row.price) d.entries)
    (sum_by (λ row. most_pairs row * row.price) d.rows) (sum_by (λ route. route_cost p route * d.scale) routes) (sum_by (row_charge times d.rows) routes) (d.scale * plan_cost p routes) refl (summed times p d routes)
    (prices_once d routes ∙ (sym (int_sum_permutation (price_of d) (concat routes) (customers p) lawful.served) ∙ ap (λ n. int_sum_by (price_of d) (range_with_len 1 (n - 1))) (sym duals.one_each)))
    (subst (λ z. int_sum_by (λ row. pos row.count *ℤ row.price) d.entries ≤ℤ z) (sym (paid_together d.entries routes)) (entries_due d.entries routes obeyed))
    (charged_at_most times takes p d.rows routes duals.remembered lawful)
    (sum_by_times (route_cost p) d.scale routes ∙ mul_comm (plan_cost p routes) d.scale)
  where
    bound : (l r d y c v : ℤ) (s w p k : ℕ) → l ≡ y +ℤ v -ℤ pos s → r +ℤ d +ℤ c ≡ pos (w + p) → d ≡ y → v ≤ℤ c → p ≤ s → w ≡ k → (l +ℤ r) ≤ℤ pos k
    bound l r d y c v s w p k el er ed le few ew = omega (arith, ints)

-- ---- routes that are no deeper

-- none of the routes has a reduced cost below -depth
abbrev AreAbove : (SubsetRow → List ℕ → ℕ) → Problem → DualsOf → ℕ → List (List ℕ) → Type 0
AreAbove times p d depth routes = All (λ other. pos 0 ≤ℤ (reduced_by times p d other +ℤ pos depth)) routes

others_above : (times : SubsetRow → List ℕ → ℕ) (p : Problem) (d : DualsOf) (routes : List (List ℕ)) (depth : ℕ) → AreAbove times p d depth routes → pos 0 ≤ℤ (int_sum_by (reduced_by times p d) routes +ℤ pos (length routes * depth))
others_above times p d [] depth each = omega (arith, ints)
others_above times p d (route ∷ routes) depth each =
    let here = All-head (λ other. pos 0 ≤ℤ (reduced_by times p d other +ℤ pos depth)) route routes each in
    let rest = others_above times p d routes depth (All-tail (λ other. pos 0 ≤ℤ (reduced_by times p d other +ℤ pos depth)) route routes each) in
    sum (reduced_by times p d route) (int_sum_by (reduced_by times p d) routes) (length routes * depth) ((suc (length routes)) * depth) here rest (omega arith)
  where
    sum : (a b : ℤ) (n m : ℕ) → pos 0 ≤ℤ (a +ℤ pos depth) → pos 0 ≤ℤ (b +ℤ pos n) → m ≡ depth + n → pos 0 ≤ℤ (a +ℤ b +ℤ pos m)
    sum a b n m p q e = omega (arith, ints)

one_of : (times : SubsetRow → List ℕ → ℕ) (p : Problem) (d : DualsOf) (routes : List (List ℕ)) (route : List ℕ) (depth : ℕ) → AreAbove times p d depth routes → Contains routes route
    → reduced_by times p d route ≤ℤ (int_sum_by (reduced_by times p d) routes +ℤ pos ((length routes - 1) * depth))
one_of times p d [] route depth each (k, lt, is) = absurd (omega (arith, lt))
one_of times p d (other ∷ routes) route depth each (zero, lt, is) =
    let rest = others_above times p d routes depth (All-tail (λ other. pos 0 ≤ℤ (reduced_by times p d other +ℤ pos depth)) other routes each) in
    first (reduced_by times p d route) (reduced_by times p d other) (int_sum_by (reduced_by times p d) routes) (length routes * depth) ((suc (length routes) - 1) * depth) (ap (reduced_by times p d) (sym is)) rest (ap (λ n. n * depth) (let same : suc (length routes) - 1 ≡ length routes = omega arith in same))
  where
    first : (a b c : ℤ) (n m : ℕ) → a ≡ b → pos 0 ≤ℤ (c +ℤ pos n) → m ≡ n → a ≤ℤ (b +ℤ c +ℤ pos m)
    first a b c n m e p f = omega (arith, ints)
one_of times p d (other ∷ routes) route depth each (suc k, lt, is) =
    let here = All-head (λ other. pos 0 ≤ℤ (reduced_by times p d other +ℤ pos depth)) other routes each in
    let rest = one_of times p d routes route depth (All-tail (λ other. pos 0 ≤ℤ (reduced_by times p d other +ℤ pos depth)) other routes each) (k, omega (arith, lt), is) in
    later (reduced_by times p d route) (reduced_by times p d other) (int_sum_by (reduced_by times p d) routes) ((length routes - 1) * depth) ((suc (length routes) - 1) * depth) here rest (more (length routes) (omega (arith, lt)))
  where
    later : (a b c : ℤ) (n m : ℕ) → pos 0 ≤ℤ (b +ℤ pos depth) → a ≤ℤ (c +ℤ pos n) → m ≡ n + depth → a ≤ℤ (b +ℤ c +ℤ pos m)
    later a b c n m p q e = omega (arith, ints)

    more : (n : ℕ) → 1 ≤ n → (suc n - 1) * depth ≡ (n - 1) * depth + depth
    more zero some = absurd (omega arith)
    more (suc n) some = let one : suc (suc n) - 1 ≡ suc n = omega arith in let two : suc n - 1 ≡ n = omega arith in rw (one, two) (omega arith)

-- a plan has no more routes than customers
few_stops : (routes : List (List ℕ)) → All (λ route. route ≢ []) routes → length routes ≤ length (concat routes)
few_stops [] some = omega arith
few_stops ([] ∷ routes) some = absurd (All-head (λ (route : List ℕ). route ≢ []) [] routes some refl)
few_stops ((j ∷ route) ∷ routes) some = omega (arith, few_stops routes (All-tail (λ (route : List ℕ). route ≢ []) (j ∷ route) routes some), length-append (j ∷ route) (concat routes))

few_routes : (p : Problem) (routes : List (List ℕ)) → IsLawful p routes → length routes ≤ length (customers p)
few_routes p routes lawful = omega (arith, few_stops routes lawful.stops, length_permutation (concat routes) (customers p) lawful.served)

pub cheap_route : (times : SubsetRow → List ℕ → ℕ) → TakesTwo times → (p : Problem) (d : DualsOf) (routes : List (List ℕ)) (route : List ℕ) (limit depth : ℕ) → AreDualsOf p d → IsLawful p routes → All (Obeys routes) d.entries → plan_cost p routes ≤ limit
    → AreAbove times p d depth routes → Contains routes route → (low_of d +ℤ reduced_by times p d route) ≤ℤ pos (d.scale * limit + (length (customers p) - 1) * depth)
cheap_route times takes p d routes route limit depth duals lawful obeyed cheap each has =
    let few : length routes - 1 ≤ length (customers p) - 1 = omega (arith, few_routes p routes lawful) in
    within (low_of d) (reduced_by times p d route) (int_sum_by (reduced_by times p d) routes) (d.scale * plan_cost p routes) (d.scale * limit) ((length routes - 1) * depth) ((length (customers p) - 1) * depth)
    (priced_plan times takes p d routes duals lawful obeyed) (one_of times p d routes route depth each has) (mul-le-mul_left d.scale cheap) (mul-le-mul_right depth few)
  where
    within : (l r s : ℤ) (c k n m : ℕ) → (l +ℤ s) ≤ℤ pos c → r ≤ℤ (s +ℤ pos n) → c ≤ k → n ≤ m → (l +ℤ r) ≤ℤ pos (k + m)
    within l r s c k n m p q le few = omega (arith, ints)

pub least_plan : (times : SubsetRow → List ℕ → ℕ) → TakesTwo times → (p : Problem) (d : DualsOf) (routes : List (List ℕ)) (depth : ℕ) → AreDualsOf p d → IsLawful p routes → All (Obeys routes) d.entries
    → AreAbove times p d depth routes → low_of d ≤ℤ pos (d.scale * plan_cost p routes + length (customers p) * depth)
least_plan times takes p d routes depth duals lawful obeyed each =
    within (low_of d) (int_sum_by (reduced_by times p d) routes) (d.scale * plan_cost p routes) (length routes * depth) (length (customers p) * depth)
    (priced_plan times takes p d routes duals lawful obeyed) (others_above times p d routes depth each) (mul-le-mul_right depth (few_routes p routes lawful))
  where
    within : (l s : ℤ) (c n m : ℕ) → (l +ℤ s) ≤ℤ pos c → pos 0 ≤ℤ (s +ℤ pos n) → n ≤ m → l ≤ℤ pos (c + m)
    within l s c n m p q few = omega (arith, ints)

-- ---- full counts

-- a row has no more turns than pairs
turns_at_most : (row : SubsetRow) → IsRemembered row → (route : List ℕ) → turns_of row route ≤ pairs_of row route
turns_at_most row within route = half (turns_of row route) (sum_by (bit_at row.customers) route) (turns_take_two row within route)
  where
    half : (n k : ℕ) → 2 * n ≤ k → n ≤ k / 2
    half n k le = omega arith

pub no_less_in_full : (p : Problem) (d : DualsOf) (route : List ℕ) → AreDualsOf p d → reduced_by turns_of p d route ≤ℤ reduced_by pairs_of p d route
no_less_in_full p d route duals =
    less (d.scale * route_cost p route) (row_charge turns_of d.rows route) (row_charge pairs_of d.rows route) (int_sum_by (price_of d) route) (entry_payment d.entries route)
    (sum_by_le (λ row. turns_of row route * row.price) (λ row. pairs_of row route * row.price) d.rows
    (All-weaker IsRemembered (λ row. turns_of row route * row.price ≤ pairs_of row route * row.price) (λ row within. mul-le-mul_right row.price (turns_at_most row within route)) d.rows duals.remembered))
  where
    less : (w a b : ℕ) (y v : ℤ) → a ≤ b → (pos (w + a) -ℤ y -ℤ v) ≤ℤ (pos (w + b) -ℤ y -ℤ v)
    less w a b y v le = omega (arith, ints)
