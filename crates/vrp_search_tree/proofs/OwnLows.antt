-- Tables over the customers alone that a prefix leaves unserved answer no lower there than tables over all customers.
use Rattle.std.proofs.Common.{◌≡◌, ◌∙◌, inl, inr, ℕ, ◌+◌, ◌≤◌, max, Option, Some, None, List, refl, ap, subst, arith}
use Rattle.std.specs.Option.{option_map}
use Rattle.vrp_bound.specs.Bound.{IsGreater, IsLowerBound}
use Rattle.vrp_bound.specs.Tables.{IsBound}
use Rattle.vrp_model.specs.Prefix.{open_load, routes_left}
use Rattle.vrp_model.specs.Problem.{IsProblem, Problem, customers}
use Rattle.vrp_model.specs.Route.{load_of}
use Rattle.vrp_model.specs.Word.{IsPrefix, last_symbol, unserved_in, word_cost}
use Rattle.vrp_search_tree.specs.Low.{IsLow}
use Rattle.vrp_search_tree.proofs.OneLow.{can_or_not, one_capacity, one_inbound_sum}

-- what vrp_bound knows of the tables
abbrev pub FewerCustomers : Type 0
FewerCustomers = (p : Problem) (prefix : List ℕ) (least : ℕ) (own : Option ℕ) → IsProblem p → IsPrefix p prefix
    → IsBound p (customers p) (last_symbol prefix) (open_load p prefix) (load_of p (unserved_in p prefix)) (Some least)
    → IsBound p (unserved_in p prefix) (last_symbol prefix) (open_load p prefix) (load_of p (unserved_in p prefix)) own
    → (more : ℕ) × (own ≡ Some more) × (least ≤ more)

greater_rises : FewerCustomers → (p : Problem) (prefix : List ℕ) (inbound_sum bound : ℕ) (own : Option ℕ) → IsProblem p → IsPrefix p prefix
    → IsGreater p (customers p) (last_symbol prefix) (open_load p prefix) inbound_sum (load_of p (unserved_in p prefix)) (Some bound)
    → IsGreater p (unserved_in p prefix) (last_symbol prefix) (open_load p prefix) inbound_sum (load_of p (unserved_in p prefix)) own
    → (more : ℕ) × (own ≡ Some more) × (bound ≤ more)
greater_rises law p prefix inbound_sum bound own problem is_prefix all few = by all.relaxed refl
  where
    by : (relaxed : Option ℕ) → all.relaxed ≡ relaxed → (more : ℕ) × (own ≡ Some more) × (bound ≤ more)
    by None is = absurd (let never : Some bound ≡ None = all.greater ∙ ap (option_map (λ least. max least all.capacity)) is in cc (never))
    by (Some least) is =
        let load = open_load p prefix in
        let rest = load_of p (unserved_in p prefix) in
        let (more, own_is, no_lower) = law p prefix least few.relaxed problem is_prefix (subst (IsBound p (customers p) (last_symbol prefix) load rest) is all.is_bound) few.is_bound in
        let capacity = one_capacity p (last_symbol prefix) load inbound_sum rest all.capacity few.capacity problem all.is_capacity few.is_capacity in
        let some : Some bound ≡ Some (max least all.capacity) = all.greater ∙ ap (option_map (λ least. max least all.capacity)) is in
        let bound_is : bound ≡ max least all.capacity = cc (some) in
        (max more few.capacity, few.greater ∙ ap (option_map (λ least. max least few.capacity)) own_is, omega (arith, bound_is, capacity, no_lower))

lower_bound_rises : FewerCustomers → (p : Problem) (prefix : List ℕ) (inbound_sum bound : ℕ) (own : Option ℕ) → IsProblem p → IsPrefix p prefix
    → IsLowerBound p (customers p) (last_symbol prefix) (open_load p prefix) inbound_sum (load_of p (unserved_in p prefix)) (routes_left p prefix) (Some bound)
    → IsLowerBound p (unserved_in p prefix) (last_symbol prefix) (open_load p prefix) inbound_sum (load_of p (unserved_in p prefix)) (routes_left p prefix) own
    → (more : ℕ) × (own ≡ Some more) × (bound ≤ more)
lower_bound_rises law p prefix inbound_sum bound own problem is_prefix all few = elim (can_or_not p (last_symbol prefix) (open_load p prefix) (load_of p (unserved_in p prefix)) (routes_left p prefix)) [
  | inl may ↦ greater_rises law p prefix inbound_sum bound own problem is_prefix (all.enough may) (few.enough may)
  | inr may_not ↦ absurd (let never : Some bound ≡ None = all.too_few may_not in cc (never))
]

pub own_low_no_lower : FewerCustomers → (p : Problem) (prefix : List ℕ) (low : ℕ) (own : Option ℕ) → IsProblem p → IsPrefix p prefix → IsLow p (customers p) prefix (Some low) → IsLow p (unserved_in p prefix) prefix own
    → (least : ℕ) × (own ≡ Some least) × (low ≤ least)
own_low_no_lower law p prefix low own problem is_prefix all few = by all.bound refl
  where
    by : (bound : Option ℕ) → all.bound ≡ bound → (least : ℕ) × (own ≡ Some least) × (low ≤ least)
    by None is = absurd (let never : Some low ≡ None = all.whole ∙ ap (option_map (λ more. word_cost p prefix + more)) is in cc (never))
    by (Some bound) is =
        let at = last_symbol prefix in
        let load = open_load p prefix in
        let rest = load_of p (unserved_in p prefix) in
        let inbound_sum = one_inbound_sum p prefix all.inbound_sum few.inbound_sum all.is_inbound_sum few.is_inbound_sum in
        let bounds = subst (λ n. IsLowerBound p (customers p) at load n rest (routes_left p prefix) (Some bound)) inbound_sum
        (subst (IsLowerBound p (customers p) at load all.inbound_sum rest (routes_left p prefix)) is all.is_bound) in
        let (more, own_is, no_lower) = lower_bound_rises law p prefix few.inbound_sum bound few.bound problem is_prefix bounds few.is_bound in
        let some : Some low ≡ Some (word_cost p prefix + bound) = all.whole ∙ ap (option_map (λ more. word_cost p prefix + more)) is in
        let low_is : low ≡ word_cost p prefix + bound = cc (some) in
        (word_cost p prefix + more, few.whole ∙ ap (option_map (λ more. word_cost p prefix + more)) own_is, omega (arith, low_is, no_lower))
