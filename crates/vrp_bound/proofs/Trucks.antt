-- How many trucks carry so much.
use Rattle.std.proofs.Common.{◌≡◌, ℕ, ◌+◌, ◌-◌, ◌*◌, ◌/◌, ◌%◌, ◌≤◌, ◌<◌, inl, inr, List, [], ◌∷◌, length, arith}
use Rattle.std.proofs.Math.Nat.{div-add-mod, mod-lt}
use Rattle.std.proofs.lemmas.Bool.{cases_lt}
use Rattle.std.proofs.lemmas.Nat.{mul-le}
use Rattle.std.proofs.lemmas.List.FromFn.{length-range_with_len}
use Rattle.std.proofs.lemmas.List.Sums.{sum_by-cons}
use Rattle.vrp_model.specs.Problem.{IsProblem, Problem, customers, demand_of, place_count}
use Rattle.vrp_model.specs.Route.{load_of}
use Rattle.vrp_bound.specs.Capacity.{IsTrucks}

pub rounded_up : (capacity amount : ℕ) → 0 < amount → 0 < capacity → IsTrucks capacity amount ((amount - 1) / capacity + 1)
rounded_up capacity amount some can =
    let whole = (amount - 1) / capacity in
    let parts : capacity * whole + (amount - 1) % capacity ≡ amount - 1 = div-add-mod (amount - 1) capacity in
    let left : (amount - 1) % capacity < capacity = mod-lt (amount - 1) can in
    let one_more : (whole + 1) * capacity ≡ capacity * whole + capacity = omega arith in
    record {
      enough = omega (arith, parts, left, one_more);
      least = λ fewer carry. elim (cases_lt whole fewer) [
        | inl more ↦ omega (arith, more)
        | inr none ↦ absurd (
            let less : fewer * capacity ≤ whole * capacity = mul-le fewer capacity whole capacity none (omega arith) in
            let turned : whole * capacity ≡ capacity * whole = omega arith in
            omega (arith, carry, less, turned, parts, some))
      ];
    }

demands_fit : (p : Problem) (stops : List ℕ) → IsProblem p → load_of p stops ≤ length stops * p.capacity
demands_fit p [] problem = omega arith
demands_fit p (stop ∷ stops) problem =
    let one_more : (length stops + 1) * p.capacity ≡ length stops * p.capacity + p.capacity = omega arith in
    omega (arith, sum_by-cons (demand_of p) stop stops, demands_fit p stops problem, problem.fitting_demands stop, one_more)

-- one truck for each customer carries all
pub all_carried : (p : Problem) → IsProblem p → load_of p (customers p) ≤ 1199 * p.capacity
all_carried p problem =
    let few : length (customers p) ≤ 1199 = omega (arith, length-range_with_len 1 (place_count p - 1), problem.few_places) in
    omega (arith, demands_fit p (customers p) problem, mul-le (length (customers p)) p.capacity 1199 p.capacity few (omega arith))

-- the arcs home cost little enough
pub returns_fit : (returns home : ℕ) → returns ≤ 1200 → home ≤ 1000000000 → returns * home ≤ 1200000000000
returns_fit returns home few small = omega (arith, mul-le returns home 1200 1000000000 few small)
