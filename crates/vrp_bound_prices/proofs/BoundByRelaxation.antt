-- A relaxation bounds what a feasible word costs.
use Rattle.std.proofs.Common.{ℕ, ◌+◌, ◌*◌, ◌≤◌, List, [], subst, arith}
use Rattle.vrp_model.specs.Near.{NearOf, near_in}
use Rattle.vrp_model.specs.Problem.{IsProblem, customers}
use Rattle.vrp_model.specs.Route.{load_of}
use Rattle.vrp_model.specs.Word.{IsLawfulWord, word_cost}
use Rattle.vrp_bound.specs.NgWalks.{AreLeastNgTours, IsNgRelaxed}
use Rattle.vrp_bound.specs.Walk.{relaxed_cost}
use Rattle.vrp_bound.proofs.NgCompletions.{ng_completion}
use Rattle.vrp_model.proofs.UnservedCustomers.{all_unserved, unserved_are_customers}
use Rattle.vrp_bound_prices.specs.Relaxation.{Bounds, RelaxationOf}

-- the least tours that carry all demands in the relaxation bound each word
pub tours_below : (r : RelaxationOf) (near : NearOf) (word : List ℕ) (least : ℕ) → Bounds r → IsProblem r.relaxed → IsLawfulWord r.problem word → AreLeastNgTours r.relaxed near least
    → least + r.rewards ≤ r.scale * word_cost r.problem word + r.charges
tours_below r near word least bounds problem lawful least_tours =
    let q = r.relaxed in
    let (home, tours, relaxed, costs) = ng_completion q (near_in near) [] word (customers q) problem (bounds.lawful word lawful) (unserved_are_customers q []) in
    let whole = subst (λ (among : List ℕ). IsNgRelaxed q (near_in near) (customers q) 0 0 (load_of q among) home tours) (all_unserved q) relaxed in
    let low : least ≤ relaxed_cost q 0 home tours = least_tours.least home tours whole in
    omega (arith, low, costs, bounds.cheaper word lawful)
