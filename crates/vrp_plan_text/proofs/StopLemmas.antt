-- The stops of a route, read token by token.
use Rattle.std.proofs.lemmas.Int.{ints}
use Rattle.vrp_plan_text.specs.Solution.{AreCustomers, FollowsCustomers}
use Rattle.std.proofs.Common.{◌≡◌, ◌≢◌, ◌∙◌, ℕ, ℤ, pos, ◌+◌, ◌<ℤ◌, Ok, List, [], ◌∷◌, ◌++◌, map, sym, ap, append_assoc, arith}
use Rattle.std.proofs.lemmas.List.{map-append}
use Rattle.std.specs.List.{Contains}
use Rattle.vrp_model.specs.Problem.{Problem, customers, place_count}
use Rattle.vrp_model.proofs.CustomerPlaces.{customer_below, customer_is_some}
use Rattle.vrp_plan_text.specs.Line.{Number}
use Rattle.vrp_plan_text.specs.Inner.Read.{stops_written}

-- one token more is read
pub stop_read : (tokens old new : List (List ℕ)) (token : List ℕ) (stops after : List ℕ) (stop : ℕ) → stops_written tokens ≡ map (λ k. Ok (pos k)) stops ++ stops_written old → old ≡ token ∷ new → stops_written (token ∷ []) ≡ Ok (pos stop) ∷ [] → after ≡ stops ++ stop ∷ []
    → stops_written tokens ≡ map (λ k. Ok (pos k)) after ++ stops_written new
stop_read tokens old new token stops after stop written is number pushed =
    let front : List Number = map (λ k. Ok (pos k)) stops in
    let rest : stops_written old ≡ Ok (pos stop) ∷ stops_written new = ap stops_written is ∙ ap (λ (l : List Number). l ++ stops_written new) number in
    let both : map (λ k. Ok (pos k)) after ≡ front ++ Ok (pos stop) ∷ [] = ap (map (λ k. Ok (pos k))) pushed ∙ map-append (λ k. Ok (pos k)) stops (stop ∷ []) in
    written ∙ ap (λ (l : List Number). front ++ l) rest ∙ sym (append_assoc front (Ok (pos stop) ∷ []) (stops_written new)) ∙ ap (λ (l : List Number). l ++ stops_written new) (sym both)

-- the number of the next token stands behind customers
pub follows : (p : Problem) (tokens old new : List (List ℕ)) (token : List ℕ) (stops : List ℕ) (number : Number) → stops_written tokens ≡ map (λ k. Ok (pos k)) stops ++ stops_written old → AreCustomers p stops → old ≡ token ∷ new → stops_written (token ∷ []) ≡ number ∷ []
    → FollowsCustomers p (stops_written tokens) number
follows p tokens old new token stops number written known is said = record {
  passed = stops;
  behind = stops_written new;
  stands = written ∙ ap (λ (l : List Number). map (λ k. Ok (pos k)) stops ++ l) (ap stops_written is ∙ ap (λ (l : List Number). l ++ stops_written new) said);
  customers = known;
}

-- below 1 or above the last, a number is no customer
pub below_customers : (p : Problem) (stop : ℤ) → stop <ℤ pos 1 → (customer : ℕ) → Contains (customers p) customer → stop ≢ pos customer
below_customers p stop low customer known is = let some = customer_is_some p customer known in omega (arith, ints, low, some, is)

pub above_customers : (p : Problem) (stop : ℤ) (count : ℕ) → count + 1 ≡ place_count p → pos count <ℤ stop → (customer : ℕ) → Contains (customers p) customer → stop ≢ pos customer
above_customers p stop count all high customer known is = let few = customer_below p customer known in omega (arith, ints, high, few, all, is)
