-- The customers of a problem, one behind the other: the places from 1 on.
use Rattle.std.proofs.Common.{◌≡◌, ℕ, ◌+◌, ◌-◌, ◌<◌, List, [], ◌∷◌, ◌++◌, length, get_or, take, ap, ◌∙◌, arith}
use Rattle.std.specs.List.{Contains}
use Rattle.std.proofs.lemmas.List.{take_all, take_more}
use Rattle.std.proofs.lemmas.List.FromFn.{get_or-range_with_len, length-range_with_len}
use Rattle.vrp_model.specs.Problem.{Problem, customers, demand_of, place_count}
use Rattle.vrp_model.specs.Route.{load_of}
use Rattle.std.proofs.lemmas.List.Sums.{sum_by-append}

-- a customer is a place
pub customer_below : (p : Problem) (k : ℕ) → Contains (customers p) k → k < place_count p
customer_below p k (i, lt, is) =
    let bound : i < place_count p - 1 = rw (length-range_with_len 1 (place_count p - 1)) at lt in
    let value : get_or (customers p) i k ≡ 1 + i = get_or-range_with_len 1 (place_count p - 1) i k bound in
    omega (arith, value, is, bound)

-- and each place but the depot is a customer
pub is_customer : (p : Problem) (k : ℕ) → 0 < k → k < place_count p → Contains (customers p) k
is_customer p k some below =
    let bound : k - 1 < place_count p - 1 = omega arith in
    let value : get_or (customers p) (k - 1) k ≡ 1 + (k - 1) = get_or-range_with_len 1 (place_count p - 1) (k - 1) k bound in
    (k - 1, rw (length-range_with_len 1 (place_count p - 1)) bound, omega (arith, value))

-- a customer is not the depot
pub customer_is_some : (p : Problem) (k : ℕ) → Contains (customers p) k → 0 < k
customer_is_some p k (i, lt, is) =
    let bound : i < place_count p - 1 = rw (length-range_with_len 1 (place_count p - 1)) at lt in
    let value : get_or (customers p) i k ≡ 1 + i = get_or-range_with_len 1 (place_count p - 1) i k bound in
    omega (arith, value, is)

-- what some stops and one more demand
pub load_with : (p : Problem) (stops : List ℕ) (k : ℕ) → load_of p (stops ++ k ∷ []) ≡ load_of p stops + demand_of p k
load_with p stops k = let more = sum_by-append (demand_of p) stops (k ∷ []) in omega (arith, more)

-- the first customers, and the one behind them
pub up_to : (p : Problem) (i : ℕ) → i + 1 < place_count p → take (i + 1) (customers p) ≡ take i (customers p) ++ (i + 1) ∷ []
up_to p i lt =
    let bound : i < place_count p - 1 = omega (arith, lt) in
    let within : i < length (customers p) = rw (length-range_with_len 1 (place_count p - 1)) bound in
    let value : get_or (customers p) i 0 ≡ 1 + i = get_or-range_with_len 1 (place_count p - 1) i 0 bound in
    let same : get_or (customers p) i 0 ≡ i + 1 = omega (arith, value) in
    take_more (customers p) i 0 within ∙ ap (λ k. take i (customers p) ++ k ∷ []) same

-- this many taken are all
pub all_taken : (p : Problem) (count : ℕ) → count + 1 ≡ place_count p → take count (customers p) ≡ customers p
all_taken p count all = take_all count (customers p) (omega (arith, all, length-range_with_len 1 (place_count p - 1)))

-- what they demand
pub demand_more : (p : Problem) (i : ℕ) → i + 1 < place_count p → load_of p (take (i + 1) (customers p)) ≡ load_of p (take i (customers p)) + demand_of p (i + 1)
demand_more p i lt = ap (load_of p) (up_to p i lt) ∙ load_with p (take i (customers p)) (i + 1)

-- and demand what all do
pub demand_all : (p : Problem) (count : ℕ) → count + 1 ≡ place_count p → load_of p (take count (customers p)) ≡ load_of p (customers p)
demand_all p count all = ap (load_of p) (all_taken p count all)
