-- Flags that tell which stops were passed, and what stops load.
use Rattle.std.proofs.Common.{◌≡◌, ◌≢◌, ◌∙◌, ℕ, suc, ◌+◌, ◌-◌, ◌*◌, ◌<◌, ◌≤◌, ◌==◌, ◌||◌, Bool, true, false, List, [], ◌∷◌, ◌++◌, length, get_or, take, drop, refl, sym, ap, subst, inl, inr, arith, append_assoc, drop-cons}
use Rattle.std.proofs.Math.ListN.{set}
use Rattle.std.specs.List.{Contains}
use Rattle.std.proofs.lemmas.Bool.{cases_Bool, eq-eqb, eqb-true}
use Rattle.std.proofs.lemmas.Grind.{get_or-set_at}
use Rattle.std.proofs.lemmas.List.{get_or-set_other, get_or_default, length-set, take-append-drop, take_more}
use Rattle.std.proofs.lemmas.List.Folds.{Any-from_list_any, list_any-append, list_any_at}
use Rattle.std.proofs.lemmas.List.Quantifiers.{all_pairs_push}
use Rattle.std.proofs.lemmas.List.Sums.{sum_by-le, sum_by_more_le}
use Rattle.std.proofs.lemmas.List.FromFn.{length-range_with_len}
use Rattle.vrp_model.specs.Problem.{IsProblem, Problem, customers, demand_of, place_count}
use Rattle.vrp_model.specs.Route.{load_of}
use Rattle.vrp_model.specs.Word.{stands_in}
use Rattle.vrp_model.specs.declared.limits.TheConstants.{MAX_CAPACITY, MAX_NODES}
use Rattle.vrp_model.proofs.DistinctWithin.{sum_among}
use Rattle.vrp_plan_text.specs.Solution.{AreCustomers}
use Rattle.vrp_plan_text.specs.Inner.Served.{AreDifferent, Marks, StandsTwice}

-- ---- what stands where

pub stands_contains : (stops : List ℕ) (k : ℕ) → stands_in stops k ≡ true → Contains stops k
stands_contains stops k stands =
    let (i, x, within, at, same) = Any-from_list_any (λ (s : ℕ). s == k) stops stands in
    let is : x ≡ k = eqb-true x k same in
    (i, within, get_or_default stops i k x within ∙ at ∙ is)

pub contains_stands : (stops : List ℕ) (k : ℕ) → Contains stops k → stands_in stops k ≡ true
contains_stands stops k (i, within, at) = list_any_at (λ (s : ℕ). s == k) stops i k within (eq-eqb (get_or stops i k) k at)

-- a list, parted at an element
pub split_at : {A : Type 0} (xs : List A) (i : ℕ) (d : A) → i < length xs → xs ≡ take i xs ++ get_or xs i d ∷ drop (suc i) xs
split_at xs i d here = sym (ap (λ l. take i xs ++ l) (sym (drop-cons xs i d here)) ∙ take-append-drop i xs)

-- ---- flags

any_or : (b : Bool) → (b || (true || false)) ≡ true
any_or true = refl
any_or false = refl

none_or : (b : Bool) → (b || (false || false)) ≡ b
none_or true = refl
none_or false = refl

-- one more stop is marked
marks_more : (flags : List Bool) (stops : List ℕ) (k : ℕ) → Marks flags stops → k < length flags → Marks (set flags k true) (stops ++ k ∷ [])
marks_more flags stops k marks here = λ j within.
    let whole : stands_in (stops ++ k ∷ []) j ≡ (stands_in stops j || ((k == j) || false)) = list_any-append (λ (s : ℕ). s == j) stops (k ∷ []) in
    elim (cases_Bool (k == j)) [
      | inl same ↦
          let is : j ≡ k = sym (eqb-true k j same) in
          let told : (stands_in stops j || ((k == j) || false)) ≡ true = rw same (any_or (stands_in stops j)) in
          get_or-set_at flags k j true false is here ∙ sym (whole ∙ told)
      | inr other ↦
          let differs : j ≢ k = λ is. absurd (let yes = eq-eqb k j (sym is) in cc (yes, other)) in
          let told : (stands_in stops j || ((k == j) || false)) ≡ stands_in stops j = rw other (none_or (stands_in stops j)) in
          get_or-set_other flags k j true false differs ∙ marks j (omega (arith, within, length-set flags k true)) ∙ sym (whole ∙ told)
    ]

pub mark_more : (flags : List Bool) (stops : List ℕ) (k : ℕ) → Marks flags stops → AreDifferent stops → k < length flags → get_or flags k false ≡ false → Marks (set flags k true) (stops ++ k ∷ []) × AreDifferent (stops ++ k ∷ [])
mark_more flags stops k marks different here free = (
  marks_more flags stops k marks here,
  all_pairs_push (λ (a : ℕ) b. a ≢ b) stops k different (λ i d within same.
      let stands = contains_stands stops k (i, within, get_or_default stops i k d within ∙ same) in
      let free_too = sym (marks k here) ∙ free in
      absurd (cc (stands, free_too))),
)

-- the stops up to one more
pub passed_more : (passed stops : List ℕ) (i : ℕ) → i < length stops → (passed ++ take i stops) ++ get_or stops i 0 ∷ [] ≡ passed ++ take (i + 1) stops
passed_more passed stops i here = append_assoc passed (take i stops) (get_or stops i 0 ∷ []) ∙ ap (λ (l : List ℕ). passed ++ l) (sym (take_more stops i 0 here))

-- a stop that is marked already
pub marked_twice : (flags : List Bool) (passed stops : List ℕ) (i k : ℕ) → Marks flags (passed ++ take i stops) → AreDifferent (passed ++ take i stops) → i < length stops → k ≡ get_or stops i 0 → k < length flags → get_or flags k false ≡ true → StandsTwice passed stops (get_or stops i 0)
marked_twice flags passed stops i k marks different here is within marked = record {
  before = take i stops;
  behind = drop (suc i) stops;
  stands = split_at stops i 0 here;
  once = different;
  again = subst (Contains (passed ++ take i stops)) is (stands_contains (passed ++ take i stops) k (sym (marks k within) ∙ marked));
}

-- ---- loads

few_customers : (p : Problem) → IsProblem p → length (customers p) ≤ MAX_NODES
few_customers p problem = omega (arith, length-range_with_len 1 (place_count p - 1), problem.few_places)

-- what different customers demand is not much
load_is_small : (p : Problem) (stops : List ℕ) → IsProblem p → AreCustomers p stops → AreDifferent stops → load_of p stops ≤ MAX_NODES * MAX_CAPACITY
load_is_small p stops problem known different =
    let among = sum_among (demand_of p) stops (customers p) different known in
    let whole : load_of p (customers p) ≤ length (customers p) * MAX_CAPACITY = sum_by-le (demand_of p) MAX_CAPACITY (customers p) (λ i d within. omega (arith, problem.fitting_demands (get_or (customers p) i d), problem.small_capacity)) in
    let few : length (customers p) ≤ MAX_NODES = few_customers p problem in
    omega (arith, among, whole, few)

pub load_fits : (p : Problem) (stops : List ℕ) (i load demand : ℕ) → IsProblem p → AreCustomers p stops → AreDifferent stops → i < length stops → load ≡ load_of p (take i stops) → demand ≡ demand_of p (get_or stops i 0) → load + demand ≤ MAX_NODES * MAX_CAPACITY
load_fits p stops i load demand problem known different here so_far next = omega (arith, sum_by_more_le (demand_of p) stops i 0 here, load_is_small p stops problem known different, so_far, next)
