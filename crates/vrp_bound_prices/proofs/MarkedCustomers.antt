-- The customers that marks pick, and what they demand.
use Rattle.std.proofs.Common.{◌≡◌, ℕ, ◌+◌, ◌-◌, ◌*◌, ◌<◌, ◌≤◌, Bool, true, false, if◌then◌else◌, inl, inr, List, [], ◌∷◌, length, get_or, refl, sym, ap, subst, ◌∙◌, arith}
use Rattle.std.specs.Prelude.{slice_index_or}
use Rattle.std.specs.List.{All, Contains, filter, range_with_len, sum_by}
use Rattle.std.proofs.lemmas.Bool.{cases_Bool}
use Rattle.std.proofs.lemmas.List.Elements.{All-contains_itself, All-filter, filter_passes}
use Rattle.std.proofs.lemmas.List.FromFn.{get_or-range_with_len, length-range_with_len}
use Rattle.std.proofs.lemmas.List.Sums.{sum_by-cons}
use Rattle.vrp_model.specs.Problem.{IsProblem, Problem, customers, demand_of, place_count}
use Rattle.vrp_model.specs.Route.{load_of}
use Rattle.vrp_model.specs.Word.{stands_in}
use Rattle.vrp_bound.specs.Capacity.{IsTrucks}
use Rattle.vrp_bound.proofs.Trucks.{all_carried}
use Rattle.vrp_bound_prices.specs.CapacityCut.{IsCut, marked}
use Rattle.vrp_bound_prices.proofs.CutsByTest.{contains_picked, cut_by_test}
use Rattle.vrp_bound_prices.proofs.Crossed.{stands_not, stands_where}

abbrev pub is_marked : List Bool → ℕ → Bool
is_marked marks place = slice_index_or marks place false

-- ---- the places from 1 on

in_range : (count k : ℕ) → 0 < k → k ≤ count → Contains (range_with_len 1 count) k
in_range count k some within =
    let bound : k - 1 < count = omega (arith, some, within) in
    let value : get_or (range_with_len 1 count) (k - 1) k ≡ 1 + (k - 1) = get_or-range_with_len 1 count (k - 1) k bound in
    (k - 1, rw (length-range_with_len 1 count) bound, omega (arith, value, some))

range_within : (count k : ℕ) → Contains (range_with_len 1 count) k → (0 < k) × (k ≤ count)
range_within count k (i, lt, is) =
    let bound : i < count = rw (length-range_with_len 1 count) at lt in
    let value : get_or (range_with_len 1 count) i k ≡ 1 + i = get_or-range_with_len 1 count i k bound in
    (omega (arith, value, is), omega (arith, value, is, bound))

marked_within : (marks : List Bool) → All (λ k. (0 < k) × (k ≤ length marks - 1)) (marked marks)
marked_within marks = All-filter (is_marked marks) (λ k. (0 < k) × (k ≤ length marks - 1)) (range_with_len 1 (length marks - 1)) (λ i d lt. range_within (length marks - 1) _ (All-contains_itself (range_with_len 1 (length marks - 1)) i d lt))

-- ---- whether a place is inside

pub marked_inside : (marks : List Bool) (k : ℕ) → 0 < k → k < length marks → stands_in (marked marks) k ≡ is_marked marks k
marked_inside marks k some within = elim (cases_Bool (is_marked marks k)) [
  | inl picked ↦ stands_where (marked marks) k (contains_picked (is_marked marks) (range_with_len 1 (length marks - 1)) k (in_range (length marks - 1) k some (omega (arith, within))) picked) ∙ sym picked
  | inr left ↦
      stands_not (marked marks) k (λ i d lt same. (
      let passes = filter_passes (is_marked marks) (range_with_len 1 (length marks - 1)) i d lt in
      let picked : is_marked marks k ≡ true = sym (ap (is_marked marks) same) ∙ passes in
      cc))
      ∙ sym left
]

pub marked_outside : (marks : List Bool) (k : ℕ) → (0 < k → k < length marks → ⊥) → stands_in (marked marks) k ≡ false
marked_outside marks k none = stands_not (marked marks) k (λ i d lt same. (
    let (some, within) = marked_within marks i d lt in
    none (omega (arith, some, same)) (omega (arith, some, within, same))))

-- ---- what they demand

abbrev pub marked_demand : Problem → List Bool → ℕ → ℕ
marked_demand p marks k = if is_marked marks k then demand_of p k else 0

demand_picked : (p : Problem) (marks : List Bool) (xs : List ℕ) → load_of p (filter (is_marked marks) xs) ≡ sum_by (marked_demand p marks) xs
demand_picked p marks [] = refl
demand_picked p marks (k ∷ xs) = elim (cases_Bool (is_marked marks k)) [
  | inl picked ↦
      let here : marked_demand p marks k ≡ demand_of p k = rw picked refl in
      let kept : load_of p (filter (is_marked marks) (k ∷ xs)) ≡ load_of p (k ∷ filter (is_marked marks) xs) = rw picked refl in
      omega (arith, here, kept, demand_picked p marks xs, sum_by-cons (demand_of p) k (filter (is_marked marks) xs), sum_by-cons (marked_demand p marks) k xs)
  | inr left ↦
      let here : marked_demand p marks k ≡ 0 = rw left refl in
      let kept : load_of p (filter (is_marked marks) (k ∷ xs)) ≡ load_of p (filter (is_marked marks) xs) = rw left refl in
      omega (arith, here, kept, demand_picked p marks xs, sum_by-cons (marked_demand p marks) k xs)
]

demand_within : (p : Problem) (marks : List Bool) (k : ℕ) → marked_demand p marks k ≤ demand_of p k
demand_within p marks k = elim (cases_Bool (is_marked marks k)) [
  | inl picked ↦ rw picked (omega arith)
  | inr left ↦ rw left (omega arith)
]

sum_within : (p : Problem) (marks : List Bool) (xs : List ℕ) → sum_by (marked_demand p marks) xs ≤ load_of p xs
sum_within p marks [] = omega arith
sum_within p marks (k ∷ xs) = omega (arith, demand_within p marks k, sum_within p marks xs, sum_by-cons (marked_demand p marks) k xs, sum_by-cons (demand_of p) k xs)

-- what is summed over all customers is what the marked ones demand
pub load_marked : (p : Problem) (marks : List Bool) → length marks ≡ place_count p → sum_by (marked_demand p marks) (customers p) ≡ load_of p (marked marks)
load_marked p marks one_each = rw one_each (sym (demand_picked p marks (customers p)))

-- and that is no more than one truck for each customer carries
pub marked_carried : (p : Problem) (marks : List Bool) → IsProblem p → length marks ≡ place_count p → load_of p (marked marks) ≤ 1199 * p.capacity
marked_carried p marks problem one_each = omega (arith, load_marked p marks one_each, sum_within p marks (customers p), all_carried p problem)

-- ---- the cut

pub marked_cut : (p : Problem) (marks : List Bool) (trucks cut_price : ℕ) → length marks ≡ place_count p → IsTrucks p.capacity (load_of p (marked marks)) trucks → IsCut p (record { inside = marked marks; trucks = trucks; cut_price = cut_price })
marked_cut p marks trucks cut_price one_each carry =
    let picked : marked marks ≡ filter (is_marked marks) (customers p) = ap (λ n. filter (is_marked marks) (range_with_len 1 (n - 1))) one_each in
    let carried : IsTrucks p.capacity (load_of p (filter (is_marked marks) (customers p))) trucks = subst (λ (inside : List ℕ). IsTrucks p.capacity (load_of p inside) trucks) picked carry in
    subst (λ (inside : List ℕ). IsCut p (record { inside = inside; trucks = trucks; cut_price = cut_price })) (sym picked) (cut_by_test p (is_marked marks) trucks cut_price carried)
