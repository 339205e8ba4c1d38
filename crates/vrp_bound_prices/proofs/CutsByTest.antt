-- Cuts whose customers a test picks.
use Rattle.std.proofs.Common.{◌≡◌, ◌≢◌, ℕ, zero, suc, ◌<◌, Bool, true, false, inl, inr, List, [], ◌∷◌, sym, ap, ◌∙◌, arith}
use Rattle.std.specs.List.{Contains, filter}
use Rattle.std.proofs.lemmas.Bool.{cases_Bool}
use Rattle.std.proofs.lemmas.List.Elements.{All-contains_itself, All-filter, filter_passes}
use Rattle.std.proofs.lemmas.List.Kept.{AllPairs-filter}
use Rattle.vrp_model.specs.Problem.{Problem, customers, place_count}
use Rattle.vrp_model.specs.Route.{load_of}
use Rattle.vrp_model.specs.Word.{stands_in}
use Rattle.vrp_model.proofs.CustomerPlaces.{customer_is_some, is_customer}
use Rattle.vrp_model.proofs.DistinctLists.{behind_head, customers_distinct}
use Rattle.vrp_bound.specs.Capacity.{IsTrucks}
use Rattle.vrp_bound_prices.specs.CapacityCut.{IsCut}
use Rattle.vrp_bound_prices.proofs.Crossed.{depot_outside, stands_not, stands_where}

pub contains_picked : (test : ℕ → Bool) (xs : List ℕ) (x : ℕ) → Contains xs x → test x ≡ true → Contains (filter test xs) x
contains_picked test [] x (i, lt, is) passes = absurd (omega (arith, lt))
contains_picked test (y ∷ ys) x (zero, lt, is) passes = let here : test y ≡ true = ap test is ∙ passes in rw here (0, omega arith, is)
contains_picked test (y ∷ ys) x (suc i, lt, is) passes = (
    let rest = contains_picked test ys x (i, omega (arith, lt), is) passes in
    elim (cases_Bool (test y)) [
      | inl kept ↦ rw kept (behind_head y x (filter test ys) rest)
      | inr dropped ↦ rw dropped rest
    ]
    )

pub cut_by_test : (p : Problem) (test : ℕ → Bool) (trucks cut_price : ℕ) → IsTrucks p.capacity (load_of p (filter test (customers p))) trucks → IsCut p (record { inside = filter test (customers p); trucks = trucks; cut_price = cut_price })
cut_by_test p test trucks cut_price carry = record {
  known = All-filter test (Contains (customers p)) (customers p) (All-contains_itself (customers p));
  once = AllPairs-filter (λ a b. a ≢ b) test (customers p) (customers_distinct p);
  carry = carry;
}

-- a place is inside exactly where the test picks it
pub stands_by_test : (p : Problem) (test : ℕ → Bool) (k : ℕ) → test 0 ≡ false → k < place_count p → stands_in (filter test (customers p)) k ≡ test k
stands_by_test p test zero none below =
    depot_outside (filter test (customers p)) (All-filter test (λ k. 0 < k) (customers p) (λ i d lt. customer_is_some p _ (All-contains_itself (customers p) i d lt))) ∙ sym none
stands_by_test p test (suc k) none below = elim (cases_Bool (test (suc k))) [
  | inl picked ↦ stands_where (filter test (customers p)) (suc k) (contains_picked test (customers p) (suc k) (is_customer p (suc k) (omega arith) below) picked) ∙ sym picked
  | inr left ↦
      stands_not (filter test (customers p)) (suc k) (λ i d lt same. (
      let passes = filter_passes test (customers p) i d lt in
      let picked : test (suc k) ≡ true = sym (ap test same) ∙ passes in
      cc))
      ∙ sym left
]
