-- What a feasible word adds to a prefix, symbol by symbol: one induction for all that is said of it.
use Rattle.std.proofs.Common.{◌≡◌, ◌≢◌, ℕ, zero, suc, ◌+◌, ◌≤◌, ◌<◌, ◌⊎◌, inl, inr, List, [], ◌∷◌, ◌++◌, length, length-append, get_or, refl, sym, ap, subst, ◌∙◌, append-nil, arith}
use Rattle.std.specs.List.{All, Contains, sum_by}
use Rattle.std.proofs.Math.ListN.{get_or-append}
use Rattle.std.proofs.lemmas.List.{get_or-append-add, get_or_default}
use Rattle.std.proofs.lemmas.List.Elements.{All-contains, Contains-get_or}
use Rattle.vrp_model.specs.Prefix.{open_load}
use Rattle.vrp_model.specs.Problem.{IsProblem, Problem, customers, demand_of, place_count}
use Rattle.vrp_model.specs.Word.{IsLawfulWord, last_symbol, served_in, unserved_in}
use Rattle.vrp_model.proofs.PrefixWithSymbol.{closed_is_open}
use Rattle.vrp_model.proofs.PrefixPlaces.{last_is_place}
use Rattle.vrp_model.proofs.DistinctLists.{AreDistinct}
use Rattle.vrp_model.proofs.LastRoute.{last_symbol_with, load_at_depot, load_with_customer}
use Rattle.vrp_model.proofs.UnservedCustomers.{sum_of_unserved, unserved_if_not_served}
use Rattle.vrp_model.proofs.Words.{serves_customer}
use Rattle.vrp_bound.proofs.ServedBehind.{differs_from_last, prefix_of, light_prefix, served_more, sum_of_all, with_symbol}

-- What holds of nothing more at the depot, and of a symbol more where it holds of what is behind that symbol: the truck that is
-- out drives home, one leaves the depot for a customer, and the one that is out drives to a customer.
pub record HoldsBySymbol (p : Problem) (Holds : ℕ → ℕ → List ℕ → Type 0) : Type 0 where
  pub nothing : Holds 0 0 []
  pub home : (j load : ℕ) (more : List ℕ) → suc j < place_count p → load ≤ p.capacity → Holds 0 0 more → Holds (suc j) load (0 ∷ more)
  pub leaves : (k : ℕ) (more : List ℕ) → demand_of p (suc k) ≤ p.capacity → Holds (suc k) (demand_of p (suc k)) more → Holds 0 0 (suc k ∷ more)
  pub continues : (j load k : ℕ) (more : List ℕ) → suc j < place_count p → suc j ≢ suc k → load + demand_of p (suc k) ≤ p.capacity → Holds (suc k) (load + demand_of p (suc k)) more → Holds (suc j) load (suc k ∷ more)

at_prefix : (p : Problem) (Holds : ℕ → ℕ → List ℕ → Type 0) (prefix more : List ℕ) (at load : ℕ) → last_symbol prefix ≡ at → open_load p prefix ≡ load → Holds at load more → Holds (last_symbol prefix) (open_load p prefix) more
at_prefix p Holds prefix more at load here on rest = subst (λ n. Holds (last_symbol prefix) n more) (sym on) (subst (λ n. Holds n load more) (sym here) rest)

from_prefix : (p : Problem) (Holds : ℕ → ℕ → List ℕ → Type 0) (prefix more : List ℕ) (at load : ℕ) → last_symbol prefix ≡ at → open_load p prefix ≡ load → Holds (last_symbol prefix) (open_load p prefix) more → Holds at load more
from_prefix p Holds prefix more at load here on rest = subst (λ n. Holds at n more) on (subst (λ n. Holds n (open_load p prefix) more) here rest)

-- a place is the depot, or the successor of a number
place_cases : (at : ℕ) → (at ≡ 0) ⊎ ((j : ℕ) × (at ≡ suc j))
place_cases zero = inl refl
place_cases (suc j) = inr (j, refl)

-- it holds of what a feasible word adds to a prefix, at the prefix's last place and with its open route's load
pub by_symbols : (p : Problem) (Holds : ℕ → ℕ → List ℕ → Type 0) → HoldsBySymbol p Holds → IsProblem p → (prefix more : List ℕ) → IsLawfulWord p (prefix ++ more) → Holds (last_symbol prefix) (open_load p prefix) more
by_symbols p Holds steps problem prefix [] lawful =
    let closed : last_symbol prefix ≡ 0 = ap last_symbol (sym (append-nil prefix)) ∙ lawful.closed in
    at_prefix p Holds prefix [] 0 0 closed (load_at_depot p prefix closed) steps.nothing
by_symbols p Holds steps problem prefix (zero ∷ more) lawful =
    let longer = prefix ++ 0 ∷ [] in
    let after = with_symbol p prefix more 0 lawful in
    let is_prefix = prefix_of p longer more after in
    let before = prefix_of p prefix (0 ∷ more) lawful in
    let here : last_symbol longer ≡ 0 = last_symbol_with prefix 0 in
    let rest = from_prefix p Holds longer more 0 0 here (load_at_depot p longer here) (by_symbols p Holds steps problem longer more after) in
    let is_open = closed_is_open p prefix is_prefix in
    let place = last_is_place p prefix problem before in
    elim (place_cases (last_symbol prefix)) [
      | inl none ↦ absurd (omega (arith, none, is_open))
      | inr (j, some) ↦ at_prefix p Holds prefix (0 ∷ more) (suc j) (open_load p prefix) some refl (steps.home j (open_load p prefix) more (omega (arith, place, some)) (light_prefix p prefix before) rest)
    ]
by_symbols p Holds steps problem prefix (suc k ∷ more) lawful =
    let longer = prefix ++ suc k ∷ [] in
    let after = with_symbol p prefix more (suc k) lawful in
    let is_prefix = prefix_of p longer more after in
    let before = prefix_of p prefix (suc k ∷ more) lawful in
    let loads = load_with_customer p prefix (suc k) problem before (omega arith) is_prefix in
    let rest = by_symbols p Holds steps problem longer more after in
    let here : last_symbol longer ≡ suc k = last_symbol_with prefix (suc k) in
    let place = last_is_place p prefix problem before in
    elim (place_cases (last_symbol prefix)) [
      | inl none ↦
          at_prefix p Holds prefix (suc k ∷ more) 0 0 none (load_at_depot p prefix none)
          (steps.leaves k more (problem.fitting_demands (suc k)) (from_prefix p Holds longer more (suc k) (demand_of p (suc k)) here (loads.starts none) rest))
      | inr (j, some) ↦
          let differs : suc j ≢ suc k = λ same. differs_from_last p prefix (suc k) (omega arith) is_prefix (some ∙ same) in
          let grows = loads.grows (omega (arith, some)) in
          at_prefix p Holds prefix (suc k ∷ more) (suc j) (open_load p prefix) some refl
          (steps.continues j (open_load p prefix) k more (omega (arith, place, some)) differs (omega (arith, grows, loads.fits)) (from_prefix p Holds longer more (suc k) (open_load p prefix + demand_of p (suc k)) here grows rest))
    ]

-- what holds of all that is served behind a customer and of the customer itself, taken apart
pub first_and_rest : (P : ℕ → Type 0) (k : ℕ) (more : List ℕ) → All P (served_in (suc k ∷ more)) → P (suc k) × All P (served_in more)
first_and_rest P k more all =
    let both = subst (All P) (serves_customer k more) all in
    (both 0 (suc k) (omega arith), λ i d lt. both (suc i) d (omega (arith, lt)))

-- ---- what is served behind a prefix is what the prefix leaves unserved

not_served_twice : (prefix more : List ℕ) (k : ℕ) → AreDistinct (prefix ++ more) → Contains more k → All (λ served. served ≢ k) prefix
not_served_twice prefix more k distinct (j, within, same) = λ i d lt before.
    distinct i (length prefix + j) k (omega (arith, lt)) (omega (arith, within, length-append prefix more))
    (get_or-append prefix more k i lt ∙ get_or_default prefix i k d lt ∙ before ∙ sym (get_or-append-add prefix more j k ∙ same))

-- what holds of each customer that the prefix leaves unserved holds of each that is served behind it
pub all_served_behind : (P : ℕ → Type 0) (p : Problem) (prefix more : List ℕ) → IsLawfulWord p (prefix ++ more) → All P (unserved_in p prefix) → All P (served_in more)
all_served_behind P p prefix more lawful unserved = λ i d lt.
    let k = get_or (served_in more) i d in
    let here : Contains (served_in more) k = Contains-get_or (served_in more) i d lt in
    let distinct : AreDistinct (served_in prefix ++ served_in more) = subst AreDistinct (served_more prefix more) lawful.prefix.once in
    let all : All (Contains (customers p)) (served_in prefix ++ served_in more) = subst (All (Contains (customers p))) (served_more prefix more) lawful.prefix.known in
    let known : Contains (customers p) k = subst (Contains (customers p)) (get_or-append-add (served_in prefix) (served_in more) i d) (all (length (served_in prefix) + i) d (omega (arith, lt, length-append (served_in prefix) (served_in more)))) in
    All-contains P (unserved_in p prefix) k unserved (unserved_if_not_served p prefix k known (not_served_twice (served_in prefix) (served_in more) k distinct here))

-- and is as much in sum
pub sum_behind : (f : ℕ → ℕ) (p : Problem) (prefix more : List ℕ) → IsLawfulWord p (prefix ++ more) → sum_by f (served_in more) ≡ sum_by f (unserved_in p prefix)
sum_behind f p prefix more lawful = omega (arith, sum_of_all f p prefix more lawful, sum_of_unserved f p prefix (prefix_of p prefix more lawful))
