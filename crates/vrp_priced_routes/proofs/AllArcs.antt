-- Where all arcs are alive, each plan goes along alive arcs; and a part of the plans goes along those of all.
use Rattle.std.proofs.Common.{◌≡◌, ℕ, zero, suc, ◌<◌, ◌≤◌, ◌^◌, List, [], ◌∷◌, length, get_or, refl, ◌∙◌, ap, arith, max, bit_or}
use Rattle.std.specs.Int.{bit_at}
use Rattle.std.specs.List.{All}
use Rattle.std.proofs.lemmas.List.Elements.{All-head, All-tail}
use Rattle.std.proofs.lemmas.Nat.Bits.{bit_at-lt, bit_at-pow_same, bit_at_or}
use Rattle.vrp_model.specs.declared.customers.customer_set.TheConstants.{PLACES}
use Rattle.vrp_model.specs.CustomerSet.{set_of}
use Rattle.vrp_model.proofs.Sets.{bit_of}
use Rattle.vrp_model.specs.Problem.{IsProblem, Problem, customers, place_count}
use Rattle.vrp_model.specs.declared.limits.TheConstants.{NO_COST}
use Rattle.vrp_model.proofs.CustomerPlaces.{customer_below, is_customer}
use Rattle.vrp_model.proofs.Recalled.{contained_stands}
use Rattle.vrp_routes.proofs.FeasibleRoutes.{are_routes}
use Rattle.vrp_routes.specs.declared.plan_range.PlanRange.{PlanRange}
use Rattle.vrp_routes.proofs.Ranges.{in_part}
use Rattle.vrp_routes.specs.Range.{IsPart}
use Rattle.vrp_priced_routes.specs.Arcs.{ArcsOf, GoesAlong, HoldPlans, IsAlive}

-- the set of all places
pub in_all : (p : Problem) (set k : ℕ) → set ≡ bit_or (set_of (customers p)) (2 ^ 0) → k < place_count p → bit_at set k ≡ 1
in_all p set zero is lt = ap (λ n. bit_at n 0) is ∙ (bit_at_or (set_of (customers p)) (2 ^ 0) 0 ∙ high (bit_at (set_of (customers p)) 0) (bit_at (2 ^ 0) 0) (bit_at-pow_same 0) (bit_at-lt (set_of (customers p)) 0))
  where
    high : (x y : ℕ) → y ≡ 1 → x < 2 → max x y ≡ 1
    high x y one below = omega arith
in_all p set (suc k) is lt =
    let stands = contained_stands (customers p) (suc k) (is_customer p (suc k) (omega arith) lt) in
    ap (λ n. bit_at n (suc k)) is ∙ (bit_at_or (set_of (customers p)) (2 ^ 0) (suc k) ∙ high (bit_at (set_of (customers p)) (suc k)) (bit_at (2 ^ 0) (suc k)) (bit_of (customers p) (suc k) ∙ rw stands refl) (bit_at-lt (2 ^ 0) (suc k)))
  where
    high : (x y : ℕ) → x ≡ 1 → y < 2 → max x y ≡ 1
    high x y one below = omega arith

goes_along : (n : ℕ) (followers : List ℕ) → 0 < n → ((from to : ℕ) → from < n → to < n → IsAlive followers from to) → (at : ℕ) → at < n → (stops : List ℕ) → All (λ stop. stop < n) stops → GoesAlong followers at stops
goes_along n followers some every at lt [] known = every at 0 lt some
goes_along n followers some every at lt (stop ∷ stops) known =
    let here = All-head (λ stop. stop < n) stop stops known in
    (every at stop lt here, goes_along n followers some every stop here stops (All-tail (λ stop. stop < n) stop stops known))

pub all_hold : (p : Problem) (range : PlanRange) (followers : List ℕ) → IsProblem p → place_count p ≤ PLACES → range.limit ≤ NO_COST → length followers ≡ place_count p
    → ((from to : ℕ) → from < place_count p → to < place_count p → IsAlive followers from to) → HoldPlans (record { problem = p; range = range; followers = followers })
all_hold p range followers problem few moderate long every = record {
  problem = problem;
  few = few;
  moderate = moderate;
  long = long;
  plans = λ routes lawful cheap i d lt.
      goes_along (place_count p) followers (omega (arith, problem.some_places)) every 0 (omega (arith, problem.some_places)) (get_or routes i d)
      (λ k x within. customer_below p (get_or (get_or routes i d) k x) ((are_routes p routes lawful i d lt).known k x within));
}

-- plans in a part of the range go along the same arcs
pub part_holds : (a : ArcsOf) (part : PlanRange) → HoldPlans a → IsPart part a.range → HoldPlans (record { problem = a.problem; range = part; followers = a.followers })
part_holds a part hold is = record {
  problem = hold.problem;
  few = hold.few;
  moderate = omega (arith, hold.moderate, is.cheap);
  long = hold.long;
  plans = λ routes lawful inside. hold.plans routes lawful (in_part a.problem part a.range routes is inside);
}
