-- Which prefixes a word begins with, and how many of them.
use Rattle.std.proofs.Common.{◌≡◌, ◌≢◌, ℕ, zero, suc, ◌+◌, ◌<◌, ◌==◌, Bool, true, false, cond, List, [], ◌∷◌, ◌++◌, length, get_or, refl, sym, ap, subst, ◌∙◌, inl, inr, ◌⊎◌, arith, append_assoc}
use Rattle.std.specs.Prelude.{count_by, ◌↔◌}
use Rattle.std.specs.List.{All, Contains}
use Rattle.std.proofs.lemmas.Bool.Decides.{nat_tests}
use Rattle.std.proofs.lemmas.List.{length-map}
use Rattle.std.proofs.lemmas.List.Folds.{fold-map}
use Rattle.std.proofs.lemmas.List.Elements.{All-contains, Contains-get_or}
use Rattle.std.proofs.lemmas.List.Kept.{AllPairs-from_increasing}
use Rattle.std.proofs.lemmas.List.Sums.{sum_by-append, sum_by-cons}
use Rattle.vrp_model.specs.Problem.{Problem, customers}
use Rattle.vrp_model.specs.Word.{BeginsWith, IsPrefix, IsLawfulWord, served_in}
use Rattle.vrp_model.proofs.PrefixWithSymbol.{closed_is_open, unserved_if_added}
use Rattle.vrp_model.proofs.UnservedCustomers.{unserved_differs, unserved_is_customer}
use Rattle.vrp_model.proofs.PrefixesBefore.{one_child_behind}
use Rattle.vrp_model.proofs.DistinctLists.{AreDistinct, head_differs, tail_distinct}
use Rattle.vrp_search_tree.specs.Child.{AreChildren}
use Rattle.vrp_search_tree.specs.Cutting.{begins_with}

-- what a prefix adds to a count
abbrev pub one_if : Bool → ℕ
one_if b = cond b 1 0

pub either : (b : Bool) → (b ≡ true) ⊎ (b ≡ false)
either true = inl refl
either false = inr refl

is_false : (b : Bool) → (b ≡ true → ⊥) → b ≡ false
is_false true never = absurd (never refl)
is_false false never = refl

-- ---- the test and what it says

begins_itself : (prefix rest : List ℕ) → begins_with (prefix ++ rest) prefix ≡ true
begins_itself [] rest = refl
begins_itself (k ∷ prefix) rest =
    let test : (k == k) ≡ true = grind (arith, nat_tests) in
    rw test (begins_itself prefix rest)

pub begins_if : (word prefix : List ℕ) → BeginsWith word prefix → begins_with word prefix ≡ true
begins_if word prefix begins = rw begins.1 (begins_itself prefix begins.0)

pub begins_only : (word prefix : List ℕ) → begins_with word prefix ≡ true → BeginsWith word prefix
begins_only word [] does = (word, refl)
begins_only [] (k ∷ prefix) does = absurd (cc)
begins_only (j ∷ word) (k ∷ prefix) does =
    elim (either (j == k)) [
      | inl test ↦
          let same : j ≡ k = grind (arith, nat_tests) in
          let rest = begins_only word prefix (rw test at does) in
          (rest.0, ap (λ n. n ∷ word) same ∙ ap (λ (xs : List ℕ). k ∷ xs) rest.1)
      | inr test ↦ absurd (let never : false ≡ true = rw test at does in cc)
    ]

pub begins_is : (word prefix : List ℕ) → (begins_with word prefix ≡ true) ↔ BeginsWith word prefix
begins_is word prefix = (begins_only word prefix, begins_if word prefix)

-- a longer prefix
pub begins_before : (word prefix : List ℕ) (k : ℕ) → BeginsWith word (prefix ++ k ∷ []) → BeginsWith word prefix
begins_before word prefix k begins = (k ∷ begins.0, begins.1 ∙ append_assoc prefix (k ∷ []) begins.0)

-- ---- counts

pub count-append : (test : List ℕ → Bool) (xs ys : List (List ℕ)) → count_by test (xs ++ ys) ≡ count_by test xs + count_by test ys
count-append test xs ys = sum_by-append (λ x. one_if (test x)) xs ys

pub count-cons : (test : List ℕ → Bool) (x : List ℕ) (xs : List (List ℕ)) → count_by test (x ∷ xs) ≡ one_if (test x) + count_by test xs
count-cons test x xs = sum_by-cons (λ y. cond (test y) 1 0) x xs

count_none : (test : ℕ → Bool) (xs : List ℕ) → All (λ k. test k ≡ false) xs → count_by test xs ≡ 0
count_none test [] none = refl
count_none test (x ∷ xs) none =
    let step : count_by test (x ∷ xs) ≡ one_if (test x) + count_by test xs = sum_by-cons (λ y. cond (test y) 1 0) x xs in
    let here : test x ≡ false = none 0 x (omega arith) in
    let head : one_if (test x) ≡ 0 = rw here refl in
    omega (arith, step, head, count_none test xs (λ k d lt. none (suc k) d (omega (arith, lt))))

-- one of the distinct elements passes, and no other number does
count_one : (test : ℕ → Bool) (xs : List ℕ) (k : ℕ) → AreDistinct xs → Contains xs k → test k ≡ true → ((j : ℕ) → test j ≡ true → j ≡ k) → count_by test xs ≡ 1
count_one test [] k distinct contains does only = absurd (let lt : contains.0 < 0 = contains.1 in omega (arith, lt))
count_one test (x ∷ xs) k distinct (zero, lt, is) does only =
    let step : count_by test (x ∷ xs) ≡ one_if (test x) + count_by test xs = sum_by-cons (λ y. cond (test y) 1 0) x xs in
    let same : x ≡ k = is in
    let here : test x ≡ true = ap test same ∙ does in
    let head : one_if (test x) ≡ 1 = rw here refl in
    let rest = count_none test xs (λ i d within. is_false (test (get_or xs i d)) (λ too. head_differs x xs distinct i d within (same ∙ sym (only (get_or xs i d) too)))) in
    omega (arith, step, head, rest)
count_one test (x ∷ xs) k distinct (suc i, lt, is) does only =
    let step : count_by test (x ∷ xs) ≡ one_if (test x) + count_by test xs = sum_by-cons (λ y. cond (test y) 1 0) x xs in
    let within : i < length xs = omega (arith, lt) in
    let here : test x ≡ false = is_false (test x) (λ too. head_differs x xs distinct i k within (only x too ∙ sym is)) in
    let head : one_if (test x) ≡ 0 = rw here refl in
    omega (arith, step, head, count_one test xs k (tail_distinct x xs distinct) (i, within, is) does only)

-- ---- children

-- a feasible word has none
pub no_child_of_lawful : (p : Problem) (word : List ℕ) (k : ℕ) → IsLawfulWord p word → IsPrefix p (word ++ k ∷ []) → ⊥
no_child_of_lawful p word zero lawful after = absurd (let is_open = closed_is_open p word after in omega (arith, is_open, lawful.closed))
no_child_of_lawful p word (suc k) lawful after =
    let added = unserved_if_added p word (suc k) (omega arith) after in
    let contained = All-contains (Contains (served_in word)) (customers p) (suc k) lawful.every (unserved_is_customer p word (suc k) added) in
    All-contains (λ served. served ≢ suc k) (served_in word) (suc k) (unserved_differs p word (suc k) added) contained refl

-- a feasible word begins with one of a prefix's children where it begins with the prefix, and with none elsewhere
pub count_children : (p : Problem) (prefix word : List ℕ) (children : List (List ℕ)) → IsPrefix p prefix → IsLawfulWord p word → AreChildren p prefix children → 0 < length children
    → count_by (begins_with word) children ≡ one_if (begins_with word prefix)
count_children p prefix word children is_prefix lawful are some =
    let test : ℕ → Bool = λ k. begins_with word (prefix ++ k ∷ []) in
    let counted : count_by (begins_with word) children ≡ count_by test are.symbols =
    ap (count_by (begins_with word)) are.are ∙ fold-map (λ a x. a + cond (begins_with word x) 1 0) (λ k. prefix ++ k ∷ []) 0 are.symbols in
    let below = AllPairs-from_increasing are.symbols are.rising in
    let distinct : AreDistinct are.symbols = λ i j d lt within same. absurd (omega (arith, below i j d lt within, same)) in
    let long : length children ≡ length are.symbols = ap length are.are ∙ length-map are.symbols (λ k. prefix ++ k ∷ []) in
    let first : IsPrefix p (prefix ++ get_or are.symbols 0 0 ∷ []) = (are.each (get_or are.symbols 0 0)).0 (Contains-get_or are.symbols 0 0 (omega (arith, some, long))) in
    elim (either (begins_with word prefix)) [
      | inl does ↦
          let longer : word ≢ prefix = λ same. no_child_of_lawful p word (get_or are.symbols 0 0) lawful (subst (λ (w : List ℕ). IsPrefix p (w ++ get_or are.symbols 0 0 ∷ [])) (sym same) first) in
          let child = one_child_behind p prefix word is_prefix lawful (begins_only word prefix does) longer in
          let one : count_by test are.symbols ≡ 1 = count_one test are.symbols child.0 distinct ((are.each child.0).1 child.1) (begins_if word (prefix ++ child.0 ∷ []) child.2) (λ j too. child.3 j (begins_only word (prefix ++ j ∷ []) too)) in
          counted ∙ one ∙ sym (ap one_if does)
      | inr doesnt ↦
          let none : count_by test are.symbols ≡ 0 = count_none test are.symbols (λ i d within. is_false (test (get_or are.symbols i d)) (λ too. absurd (let does = begins_if word prefix (begins_before word prefix (get_or are.symbols i d) (begins_only word (prefix ++ get_or are.symbols i d ∷ []) too)) in let never : true ≡ false = sym does ∙ doesnt in cc))) in
          counted ∙ none ∙ sym (ap one_if doesnt)
    ]
