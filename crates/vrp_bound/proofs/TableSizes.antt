-- How many customers there can be, and what they demand where tables are made.
use Rattle.std.proofs.Common.{◌≡◌, ℕ, zero, suc, ◌+◌, ◌-◌, ◌<◌, ◌≤◌, List, [], ◌∷◌, length, get_or, inl, inr, add-one, arith}
use Rattle.std.specs.List.{All, Contains}
use Rattle.std.specs.List.Sorted.{IsStrictlyIncreasing}
use Rattle.std.proofs.lemmas.Bool.{cases_lt}
use Rattle.std.proofs.lemmas.List.FromFn.{get_or-range_with_len, length-range_with_len}
use Rattle.std.proofs.lemmas.List.Sums.{sum_by-cons}
use Rattle.std.proofs.lemmas.Nat.{mul-le}
use Rattle.vrp_model.specs.Problem.{IsProblem, Problem, customers, demand_of, place_count}
use Rattle.vrp_model.specs.Route.{load_of}
use Rattle.vrp_bound.specs.Inner.Scope.{IsScope}
use Rattle.vrp_bound.specs.Tables.{AreMadeWithin, room_of}

-- each element of a rising list is at least its index
rising_from : (xs : List ℕ) (k : ℕ) → IsStrictlyIncreasing xs → k < length xs → k ≤ get_or xs k 0
rising_from xs zero rising within = omega arith
rising_from xs (suc k) rising within =
    let before = rising_from xs k rising (omega (arith, within)) in
    let step : get_or xs k 0 < get_or xs (suc k) 0 = rw (← add-one k) (rising k (omega (arith, within))) in
    omega (arith, before, step)

place_of : (p : Problem) (customer : ℕ) → IsProblem p → Contains (customers p) customer → customer < place_count p
place_of p customer problem (k, lt, is) =
    let bound : k < place_count p - 1 = omega (arith, lt, length-range_with_len 1 (place_count p - 1)) in
    let value : get_or (customers p) k customer ≡ 1 + k = get_or-range_with_len 1 (place_count p - 1) k customer bound in
    omega (arith, value, is, bound)

pub places_of : (p : Problem) (among : List ℕ) → IsProblem p → All (Contains (customers p)) among → All (λ customer. customer < place_count p) among
places_of p among problem known = λ k d within. place_of p (get_or among k d) problem (known k d within)

pub few_customers : (p : Problem) (among : List ℕ) → IsProblem p → IsStrictlyIncreasing among → All (Contains (customers p)) among → length among ≤ 1200
few_customers p among problem rising known =
    elim (cases_lt 0 (length among)) [
      | inl some ↦
          let last : length among - 1 < length among = omega (arith, some) in
          let low = rising_from among (length among - 1) rising last in
          let high = places_of p among problem known (length among - 1) 0 last in
          omega (arith, low, high, some, problem.few_places)
      | inr none ↦ omega (arith, none)
    ]

light_of : (most : ℕ) (p : Problem) (among : List ℕ) → IsProblem p → AreMadeWithin most p among → load_of p among ≤ 200000000
light_of most p [] problem made = omega arith
light_of most p (customer ∷ others) problem made =
    let among = customer ∷ others in
    let some : 1 ≤ demand_of p customer = made.demands 0 customer (omega arith) in
    let load = sum_by-cons (demand_of p) customer others in
    let room : 1 ≤ room_of p among = omega (arith, some, load, problem.fitting_demands customer) in
    omega (arith, mul-le (load_of p among) 1 (load_of p among) (room_of p among) (omega arith) room, made.tours)

-- where tables are made the demand is moderate
pub light_where_made : (most : ℕ) (p : Problem) (among : List ℕ) → IsProblem p → All (λ customer. customer < place_count p) among → AreMadeWithin most p among → IsScope p among
light_where_made most p among problem places made = record {
  problem = problem;
  places = places;
  demands = made.demands;
  light = light_of most p among problem made;
}
