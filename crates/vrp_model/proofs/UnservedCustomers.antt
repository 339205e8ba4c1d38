-- The customers that a word leaves unserved: they and those that it serves are all customers.
use Rattle.std.proofs.Common.{◌≡◌, ◌≢◌, ℕ, zero, suc, ◌+◌, ◌≤◌, ◌<◌, ◌==◌, not, Bool, true, false, inl, inr, ◌⊎◌, List, [], ◌∷◌, ◌++◌, refl, sym, ap, subst, ◌∙◌, arith}
use Rattle.std.specs.List.{All, Contains, filter, sum_by}
use Rattle.std.specs.List.Sorted.{IsPermutation}
use Rattle.std.proofs.lemmas.Bool.{cases_lt}
use Rattle.std.proofs.lemmas.Bool.Decides.{nat_tests}
use Rattle.std.proofs.lemmas.List.Elements.{All-cons, All-contains, All-contains_itself, All-filter, All-nil, filter_passes}
use Rattle.std.proofs.lemmas.List.Filters.{sum_by-filter_both}
use Rattle.std.proofs.lemmas.List.Kept.{AllPairs-filter}
use Rattle.std.proofs.lemmas.List.Sorted.{sum_by-IsPermutation}
use Rattle.vrp_model.specs.Problem.{Problem, customers}
use Rattle.vrp_model.specs.Word.{IsPrefix, served_in, stands_in, unserved_in}
use Rattle.vrp_model.proofs.CustomerPlaces.{customer_is_some}
use Rattle.vrp_model.proofs.DistinctLists.{AreDistinct, behind_head, customers_distinct, same_elements}
use Rattle.vrp_model.proofs.Words.{serves_customer}

-- two numbers are equal, or they differ
pub nat_same : (j k : ℕ) → (j ≡ k) ⊎ (j ≢ k)
nat_same j k = elim (cases_lt j k) [
  | inl below ↦ inr (λ same. absurd (omega (arith, below, same)))
  | inr above ↦ elim (cases_lt k j) [
    | inl over ↦ inr (λ same. absurd (omega (arith, over, same)))
    | inr under ↦ inl (omega (arith, above, under))
  ]
]

-- ---- what a test keeps of a list

-- a test passes or it doesn't
both : (b : Bool) → (b ≡ true) ⊎ (b ≡ false)
both true = inl refl
both false = inr refl

contains_kept : (test : ℕ → Bool) (xs : List ℕ) (x : ℕ) → Contains xs x → test x ≡ true → Contains (filter test xs) x
contains_kept test [] x (i, lt, is) passes = absurd (omega (arith, lt))
contains_kept test (y ∷ ys) x (zero, lt, is) passes = let here : test y ≡ true = ap test is ∙ passes in rw here (0, omega arith, is)
contains_kept test (y ∷ ys) x (suc i, lt, is) passes = (
    let rest = contains_kept test ys x (i, omega (arith, lt), is) passes in
    elim (both (test y)) [
      | inl kept ↦ rw kept (behind_head y x (filter test ys) rest)
      | inr dropped ↦ rw dropped rest
    ]
    )

kept_is_contained : (test : ℕ → Bool) (xs : List ℕ) (x : ℕ) → Contains (filter test xs) x → Contains xs x
kept_is_contained test xs x kept = All-contains (Contains xs) (filter test xs) x (All-filter test (Contains xs) xs (All-contains_itself xs)) kept

kept_passes : (test : ℕ → Bool) (xs : List ℕ) (x : ℕ) → Contains (filter test xs) x → test x ≡ true
kept_passes test xs x kept = All-contains (λ y. test y ≡ true) (filter test xs) x (filter_passes test xs) kept

-- ---- a customer stands in a word exactly where the word serves it

pub stands_behind : (symbol k : ℕ) (word : List ℕ) → symbol ≢ k → stands_in (symbol ∷ word) k ≡ stands_in word k
stands_behind symbol k word differs = let test : (symbol == k) ≡ false = grind (arith, nat_tests, differs) in rw test refl

stands_here : (k : ℕ) (word : List ℕ) → stands_in (k ∷ word) k ≡ true
stands_here k word = let test : (k == k) ≡ true = grind (arith, nat_tests) in rw test refl

-- a symbol stands in a longer word where it stood before, or where it is the last one
pub stands_in-append : (word : List ℕ) (k j : ℕ) → j ≢ k → stands_in (word ++ k ∷ []) j ≡ stands_in word j
stands_in-append [] k j differs = stands_behind k j [] (λ same. differs (sym same))
stands_in-append (symbol ∷ word) k j differs = rw (stands_in-append word k j differs) refl

-- the symbol behind a word stands in it
pub stands_last : (word : List ℕ) (k : ℕ) → stands_in (word ++ k ∷ []) k ≡ true
stands_last [] k = stands_here k []
stands_last (symbol ∷ word) k = elim (nat_same symbol k) [
  | inl same ↦ subst (λ n. stands_in (n ∷ (word ++ k ∷ [])) k ≡ true) (sym same) (stands_here k (word ++ k ∷ []))
  | inr differs ↦ stands_behind symbol k (word ++ k ∷ []) differs ∙ stands_last word k
]

none_ahead : (symbol : ℕ) (word : List ℕ) (k : ℕ) → symbol ≢ k → All (λ served. served ≢ k) (served_in word) → All (λ served. served ≢ k) (served_in (symbol ∷ word))
none_ahead zero word k differs rest = rest
none_ahead (suc j) word k differs rest = subst (All (λ served. served ≢ k)) (sym (serves_customer j word)) (All-cons (λ served. served ≢ k) (suc j) (served_in word) differs rest)

-- a customer that doesn't stand in the word isn't served by it
pub none_stands : (word : List ℕ) (k : ℕ) → stands_in word k ≡ false → All (λ served. served ≢ k) (served_in word)
none_stands [] k none = All-nil (λ served. served ≢ k)
none_stands (symbol ∷ word) k none = elim (nat_same symbol k) [
  | inl same ↦ absurd (let stands : stands_in (symbol ∷ word) k ≡ true = subst (λ n. stands_in (n ∷ word) k ≡ true) (sym same) (stands_here k word) in cc)
  | inr differs ↦ none_ahead symbol word k differs (none_stands word k (sym (stands_behind symbol k word differs) ∙ none))
]

-- and the other way round
pub none_served : (word : List ℕ) (k : ℕ) → 0 < k → All (λ served. served ≢ k) (served_in word) → stands_in word k ≡ false
none_served [] k some all = refl
none_served (zero ∷ word) k some all = stands_behind 0 k word (λ same. absurd (omega (arith, same, some))) ∙ none_served word k some all
none_served (suc j ∷ word) k some all =
    let here = subst (All (λ served. served ≢ k)) (serves_customer j word) all in
    let differs : suc j ≢ k = here 0 (suc j) (omega arith) in
    stands_behind (suc j) k word differs ∙ none_served word k some (λ i d lt. here (suc i) d (omega (arith, lt)))

stands_served : (word : List ℕ) (k : ℕ) → 0 < k → Contains (served_in word) k → stands_in word k ≡ true
stands_served word k some served = elim (both (stands_in word k)) [
  | inl stands ↦ stands
  | inr none ↦ absurd (All-contains (λ other. other ≢ k) (served_in word) k (none_stands word k none) served refl)
]

served_stands : (word : List ℕ) (k : ℕ) → 0 < k → stands_in word k ≡ true → Contains (served_in word) k
served_stands [] k some stands = absurd (cc)
served_stands (zero ∷ word) k some stands = served_stands word k some (sym (stands_behind 0 k word (λ same. absurd (omega (arith, same, some)))) ∙ stands)
served_stands (suc j ∷ word) k some stands = subst (λ (xs : List ℕ). Contains xs k) (sym (serves_customer j word)) (elim (nat_same (suc j) k) [
  | inl same ↦ (0, omega arith, same)
  | inr differs ↦ behind_head (suc j) k (served_in word) (served_stands word k some (sym (stands_behind (suc j) k word differs) ∙ stands))
])

-- ---- what it is that a customer is unserved

-- an unserved customer is a customer
pub unserved_is_customer : (p : Problem) (word : List ℕ) (k : ℕ) → Contains (unserved_in p word) k → Contains (customers p) k
unserved_is_customer p word k unserved = kept_is_contained (λ n. not (stands_in word n)) (customers p) k unserved

not_true : (b : Bool) → not b ≡ true → b ≡ false
not_true true is = absurd (cc)
not_true false is = refl

-- it doesn't stand in the word
pub unserved_stands_not : (p : Problem) (word : List ℕ) (k : ℕ) → Contains (unserved_in p word) k → stands_in word k ≡ false
unserved_stands_not p word k unserved = not_true (stands_in word k) (kept_passes (λ n. not (stands_in word n)) (customers p) k unserved)

-- and it is none of those that are served
pub unserved_differs : (p : Problem) (word : List ℕ) (k : ℕ) → Contains (unserved_in p word) k → All (λ served. served ≢ k) (served_in word)
unserved_differs p word k unserved = none_stands word k (unserved_stands_not p word k unserved)

-- a customer that doesn't stand in the word is unserved
pub unserved_if_not_standing : (p : Problem) (word : List ℕ) (k : ℕ) → Contains (customers p) k → stands_in word k ≡ false → Contains (unserved_in p word) k
unserved_if_not_standing p word k known none = contains_kept (λ n. not (stands_in word n)) (customers p) k known (ap not none)

-- so is one that is none of those that are served
pub unserved_if_not_served : (p : Problem) (word : List ℕ) (k : ℕ) → Contains (customers p) k → All (λ served. served ≢ k) (served_in word) → Contains (unserved_in p word) k
unserved_if_not_served p word k known differs = unserved_if_not_standing p word k known (none_served word k (customer_is_some p k known) differs)

-- they are among all customers
pub unserved_are_customers : (p : Problem) (word : List ℕ) → All (Contains (customers p)) (unserved_in p word)
unserved_are_customers p word = All-filter (λ k. not (stands_in word k)) (Contains (customers p)) (customers p) (All-contains_itself (customers p))

-- each of them stands there once
pub unserved_distinct : (p : Problem) (word : List ℕ) → AreDistinct (unserved_in p word)
unserved_distinct p word = AllPairs-filter (λ a b. a ≢ b) (λ k. not (stands_in word k)) (customers p) (customers_distinct p)

-- ---- served and unserved together

-- the served customers are those that stand in the word
served_moved : (p : Problem) (word : List ℕ) → IsPrefix p word → IsPermutation (filter (stands_in word) (customers p)) (served_in word)
served_moved p word prefix =
    let kept = filter (stands_in word) (customers p) in
    same_elements (served_in word) kept (AllPairs-filter (λ a b. a ≢ b) (stands_in word) (customers p) (customers_distinct p)) prefix.once
    (λ i d lt.
    let known = prefix.known i d lt in
    contains_kept (stands_in word) (customers p) _ known (stands_served word _ (customer_is_some p _ known) (All-contains_itself (served_in word) i d lt)))
    (λ i d lt.
    let here = All-contains_itself kept i d lt in
    let known = kept_is_contained (stands_in word) (customers p) _ here in
    served_stands word _ (customer_is_some p _ known) (kept_passes (stands_in word) (customers p) _ here))

-- what is summed over the unserved customers and over the served ones is what is summed over all
pub sum_of_unserved : (f : ℕ → ℕ) (p : Problem) (word : List ℕ) → IsPrefix p word → sum_by f (unserved_in p word) + sum_by f (served_in word) ≡ sum_by f (customers p)
sum_of_unserved f p word prefix =
    omega (arith, sum_by-filter_both (stands_in word) (λ k. not (stands_in word k)) (λ k. refl) f (customers p), sum_by-IsPermutation f (filter (stands_in word) (customers p)) (served_in word) (served_moved p word prefix))

-- and so no less than over the unserved ones alone
pub sum_of_unserved_fits : (f : ℕ → ℕ) (p : Problem) (word : List ℕ) → sum_by f (unserved_in p word) ≤ sum_by f (customers p)
sum_of_unserved_fits f p word = omega (arith, sum_by-filter_both (stands_in word) (λ k. not (stands_in word k)) (λ k. refl) f (customers p))

-- ---- one more symbol

same_kept : (first second : ℕ → Bool) (xs : List ℕ) → All (λ x. first x ≡ second x) xs → filter first xs ≡ filter second xs
same_kept first second [] same = refl
same_kept first second (x ∷ xs) same =
    let rest = same_kept first second xs (λ i d lt. same (suc i) d (omega (arith, lt))) in
    let here : first x ≡ second x = same 0 x (omega arith) in
    rw (here, rest) refl

-- the depot serves nobody
pub unserved_at_depot : (p : Problem) (word : List ℕ) → unserved_in p (word ++ 0 ∷ []) ≡ unserved_in p word
unserved_at_depot p word = same_kept (λ k. not (stands_in (word ++ 0 ∷ []) k)) (λ k. not (stands_in word k)) (customers p) (λ i d lt.
    let some = customer_is_some p _ (All-contains_itself (customers p) i d lt) in
    ap not (stands_in-append word 0 _ (λ same. absurd (omega (arith, some, same)))))

-- who is unserved by a longer word is unserved by the shorter one
pub unserved_before : (p : Problem) (word : List ℕ) (k j : ℕ) → Contains (unserved_in p (word ++ k ∷ [])) j → Contains (unserved_in p word) j
unserved_before p word k j unserved =
    let none = unserved_stands_not p (word ++ k ∷ []) j unserved in
    let differs : j ≢ k = λ same. (let stands : stands_in (word ++ k ∷ []) j ≡ true = subst (λ n. stands_in (word ++ n ∷ []) j ≡ true) same (stands_last word j) in cc) in
    unserved_if_not_standing p word j (unserved_is_customer p (word ++ k ∷ []) j unserved) (sym (stands_in-append word k j differs) ∙ none)

all_kept : (xs : List ℕ) → filter (λ k. not (stands_in [] k)) xs ≡ xs
all_kept [] = refl
all_kept (x ∷ xs) = ap (λ (ys : List ℕ). x ∷ ys) (all_kept xs)

-- before any symbol all customers are unserved
pub all_unserved : (p : Problem) → unserved_in p [] ≡ customers p
all_unserved p = all_kept (customers p)
