-- No feasible word adds less to a prefix than the greater of the two bounds.
use Rattle.std.proofs.Common.{◌≡◌, ℕ, ◌+◌, ◌≤◌, inl, inr, max, Option, None, Some, MatchOption, List, ◌++◌, arith}
use Rattle.std.specs.List.{All, Contains}
use Rattle.std.specs.Option.{option_map}
use Rattle.std.proofs.lemmas.Bool.{cases_lt}
use Rattle.vrp_model.specs.Prefix.{open_load, routes_left}
use Rattle.vrp_model.specs.Problem.{IsProblem, Problem}
use Rattle.vrp_model.specs.Route.{load_of}
use Rattle.vrp_model.specs.Word.{IsLawfulWord, last_symbol, unserved_in, word_cost}
use Rattle.vrp_bound.specs.Bound.{IsLowerBound}
use Rattle.vrp_bound.specs.Capacity.{IsInboundSumOf}
use Rattle.vrp_bound.specs.Tables.{IsBound}
use Rattle.vrp_bound.specs.Walk.{IsRelaxed, relaxed_cost}
use Rattle.vrp_bound.proofs.WithoutNgSets.{completion}
use Rattle.vrp_bound.proofs.CapacityBelow.{left_carry, none_adds_less}

relaxed_below : (p : Problem) (among : List ℕ) (at load rest : ℕ) (answer : Option ℕ) (home : List ℕ) (tours : List (List ℕ)) → IsBound p among at load rest answer → IsRelaxed p among at load rest home tours
    → MatchOption answer ⊥ (λ least. least ≤ relaxed_cost p at home tours)
relaxed_below p among at load rest None home tours is relaxed = let never = is.none_made (λ made. is.made made home tours relaxed) in cc
relaxed_below p among at load rest (Some least) home tours is relaxed = elim (cases_lt (relaxed_cost p at home tours) least) [
  | inl above ↦ absurd (
      let none : Some least ≡ Some 0 = is.none_made (λ made. (let low = (is.made made).least home tours relaxed in omega (arith, low, above))) in
      let zero_is : least ≡ 0 = cc in
      omega (arith, above, zero_is))
  | inr below ↦ below
]

greater_below : (relaxed answer : Option ℕ) (capacity prefix cost whole : ℕ) → answer ≡ option_map (λ least. max least capacity) relaxed → MatchOption relaxed ⊥ (λ least. least ≤ cost) → prefix + capacity ≤ whole → prefix + cost ≡ whole
    → MatchOption answer ⊥ (λ least. prefix + least ≤ whole)
greater_below None answer capacity prefix cost whole is below cap costs = absurd below
greater_below (Some least) answer capacity prefix cost whole is below cap costs = rw is (omega (arith, below, cap, costs))

pub none_below : (p : Problem) (prefix more among : List ℕ) (inbound_sum : ℕ) (answer : Option ℕ) → IsProblem p → IsLawfulWord p (prefix ++ more) → All (Contains among) (unserved_in p prefix) → IsInboundSumOf p prefix inbound_sum
    → IsLowerBound p among (last_symbol prefix) (open_load p prefix) inbound_sum (load_of p (unserved_in p prefix)) (routes_left p prefix) answer
    → MatchOption answer ⊥ (λ least. word_cost p prefix + least ≤ word_cost p (prefix ++ more))
none_below p prefix more among inbound_sum answer problem lawful covered is_inbound_sum bound =
    let greater = bound.enough (left_carry p prefix more problem lawful) in
    let rest = load_of p (unserved_in p prefix) in
    let (home, tours, relaxed, costs) = completion p prefix more among problem lawful covered in
    let below = relaxed_below p among (last_symbol prefix) (open_load p prefix) rest greater.relaxed home tours greater.is_bound relaxed in
    let cap = none_adds_less p prefix more inbound_sum greater.capacity problem lawful is_inbound_sum greater.is_capacity in
    greater_below greater.relaxed answer greater.capacity (word_cost p prefix) (relaxed_cost p (last_symbol prefix) home tours) (word_cost p (prefix ++ more)) greater.greater below cap costs
