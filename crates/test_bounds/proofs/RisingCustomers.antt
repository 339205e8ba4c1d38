-- A list that was looked through: its places rise, and each is a customer.
use Rattle.std.proofs.Common.{◌≡◌, ℕ, ◌+◌, ◌<◌, ◌≤◌, List, length, get_or, inl, inr, ap, ◌∙◌, arith}
use Rattle.std.specs.List.{All, Contains}
use Rattle.std.specs.List.Sorted.{IsStrictlyIncreasing}
use Rattle.std.proofs.lemmas.Bool.{cases_lt}
use Rattle.std.proofs.lemmas.List.Elements.{All-from_get_or}
use Rattle.vrp_model.specs.Problem.{Problem, customers, place_count}
use Rattle.vrp_model.proofs.CustomerPlaces.{is_customer}

-- so far
pub record AreListed (p : Problem) (places : List ℕ) (count before : ℕ) : Type 0 where
  pub last : (k : ℕ) → k + 1 ≡ count → get_or places k 0 ≡ before
  pub rising : (k : ℕ) → k + 1 < count → get_or places k 0 < get_or places (k + 1) 0
  pub some : (k : ℕ) → k < count → 1 ≤ get_or places k 0
  pub within : (k : ℕ) → k < count → get_or places k 0 < place_count p

pub none_listed : (p : Problem) (places : List ℕ) (before : ℕ) → AreListed p places 0 before
none_listed p places before = record {
  last = λ k is. absurd (omega (arith, is));
  rising = λ k lt. absurd (omega (arith, lt));
  some = λ k lt. absurd (omega (arith, lt));
  within = λ k lt. absurd (omega (arith, lt));
}

pub one_more_listed : (p : Problem) (places : List ℕ) (count before place : ℕ) → AreListed p places count before → get_or places count 0 ≡ place → before < place → place < place_count p → AreListed p places (count + 1) place
one_more_listed p places count before place listed is above inside = record {
  last = λ k same. let e : k ≡ count = omega (arith, same) in ap (λ n. get_or places n 0) e ∙ is;
  rising = λ k lt. elim (cases_lt (k + 1) count) [
    | inl early ↦ listed.rising k early
    | inr late ↦
        let e : k + 1 ≡ count = omega (arith, lt, late) in
        let here : get_or places (k + 1) 0 ≡ place = ap (λ n. get_or places n 0) e ∙ is in
        omega (arith, listed.last k e, here, above)
  ];
  some = λ k lt. elim (cases_lt k count) [
    | inl early ↦ listed.some k early
    | inr late ↦ let e : k ≡ count = omega (arith, lt, late) in let here : get_or places k 0 ≡ place = ap (λ n. get_or places n 0) e ∙ is in omega (arith, here, above)
  ];
  within = λ k lt. elim (cases_lt k count) [
    | inl early ↦ listed.within k early
    | inr late ↦ let e : k ≡ count = omega (arith, lt, late) in let here : get_or places k 0 ≡ place = ap (λ n. get_or places n 0) e ∙ is in omega (arith, here, inside)
  ];
}

pub all_rising : (p : Problem) (places : List ℕ) (count before : ℕ) → AreListed p places count before → length places ≤ count → IsStrictlyIncreasing places
all_rising p places count before listed all = λ k lt. listed.rising k (omega (arith, lt, all))

pub all_known : (p : Problem) (places : List ℕ) (count before : ℕ) → AreListed p places count before → length places ≤ count → All (Contains (customers p)) places
all_known p places count before listed all =
    All-from_get_or (Contains (customers p)) places 0 (λ k lt. is_customer p (get_or places k 0) (listed.some k (omega (arith, lt, all))) (listed.within k (omega (arith, lt, all))))
