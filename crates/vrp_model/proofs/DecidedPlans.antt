-- Whether routes are a feasible plan can be decided.
use Rattle.std.proofs.Common.{◌≡◌, ◌≢◌, ℕ, suc, ◌≤◌, List, [], ◌∷◌, length, Option, Some, None, get_or, refl, inl, inr, arith}
use Rattle.std.specs.List.{All, Contains, concat}
use Rattle.std.specs.List.Sorted.{IsPermutation}
use Rattle.std.specs.Option.{ForSome}
use Rattle.std.proofs.lemmas.List.Elements.{All-cons, All-contains_itself, All-nil}
use Rattle.std.proofs.lemmas.List.Kept.{AllPairs-cons}
use Rattle.std.proofs.lemmas.List.Sorted.{Contains-permutation, IsPermutation-sym}
use Rattle.vrp_model.specs.Problem.{HasTrucks, Problem, customers}
use Rattle.vrp_model.specs.Route.{IsLawful, load_of}
use Rattle.vrp_model.proofs.DistinctLists.{AreDistinct, AreDistinct-permutation, behind_head, customers_distinct, head_differs, in_tail, same_elements, tail_distinct}
use Rattle.vrp_model.proofs.FewTrucks.{same_number}
use Rattle.vrp_model.proofs.FirstAmong.{Decided}
use Rattle.vrp_model.proofs.Ordered.{three_cases}

is_same : (j k : ℕ) → Decided (j ≡ k)
is_same j k = elim (three_cases j k) [ inl less ↦ inr (λ same. omega (arith, less, same)) | inr (inl same) ↦ inl same | inr (inr more) ↦ inr (λ same. omega (arith, more, same)) ]

is_at_most : (j k : ℕ) → Decided (j ≤ k)
is_at_most j k = elim (three_cases k j) [ inl less ↦ inr (λ most. omega (arith, less, most)) | inr (inl same) ↦ inl (omega (arith, same)) | inr (inr more) ↦ inl (omega (arith, more)) ]

negated : (P : Type 0) → Decided P → Decided (P → ⊥)
negated P (inl holds) = inr (λ never. never holds)
negated P (inr never) = inl never

both : (P Q : Type 0) → Decided P → Decided Q → Decided (P × Q)
both P Q (inl p) (inl q) = inl (p, q)
both P Q (inl p) (inr never) = inr (λ pair. never pair.1)
both P Q (inr never) decided = inr (λ pair. never pair.0)

of_all : {X : Type 0} (P : X → Type 0) (xs : List X) → ((x : X) → Decided (P x)) → Decided (All P xs)
of_all P [] decided = inl (All-nil P)
of_all P (x ∷ xs) decided =
    elim (both (P x) (All P xs) (decided x) (of_all P xs decided)) [
      | inl (here, later) ↦ inl (All-cons P x xs here later)
      | inr never ↦ inr (λ all. never (all 0 x (omega arith), λ k d lt. all (suc k) d (omega (arith, lt))))
    ]

is_contained : (xs : List ℕ) (x : ℕ) → Decided (Contains xs x)
is_contained [] x = inr (λ (k, lt, is). omega (arith, lt))
is_contained (y ∷ ys) x =
    elim (is_same y x) [
      | inl same ↦ inl (0, omega arith, same)
      | inr differs ↦ elim (is_contained ys x) [ inl within ↦ inl (behind_head y x ys within) | inr never ↦ inr (λ within. never (in_tail y x ys within differs)) ]
    ]

are_distinct : (xs : List ℕ) → Decided (AreDistinct xs)
are_distinct [] = inl (λ i j d lt within. absurd (omega (arith, within)))
are_distinct (x ∷ xs) =
    elim (both (All (λ y. x ≢ y) xs) (AreDistinct xs) (of_all (λ y. x ≢ y) xs (λ y. negated (x ≡ y) (is_same x y))) (are_distinct xs)) [
      | inl (differs, rest) ↦ inl (AllPairs-cons (λ (a : ℕ) (b : ℕ). a ≢ b) x xs differs rest)
      | inr never ↦ inr (λ distinct. never (head_differs x xs distinct, tail_distinct x xs distinct))
    ]

all_contained : (xs ys : List ℕ) → IsPermutation xs ys → All (Contains ys) xs
all_contained xs ys moved = λ k d lt. Contains-permutation xs ys (get_or xs k d) moved (All-contains_itself xs k d lt)

-- a list of the customers, each once
is_served : (p : Problem) (xs : List ℕ) → Decided (IsPermutation xs (customers p))
is_served p xs =
    elim (both (AreDistinct xs) (All (Contains xs) (customers p) × All (Contains (customers p)) xs) (are_distinct xs) (both (All (Contains xs) (customers p)) (All (Contains (customers p)) xs) (of_all (Contains xs) (customers p) (is_contained xs)) (of_all (Contains (customers p)) xs (is_contained (customers p))))) [
      | inl (distinct, covers) ↦ inl (same_elements (customers p) xs distinct (customers_distinct p) covers.0 covers.1)
      | inr never ↦ inr (λ moved.
          let back = IsPermutation-sym xs (customers p) moved in
          never (AreDistinct-permutation (customers p) xs back (customers_distinct p), (all_contained (customers p) xs back, all_contained xs (customers p) moved)))
    ]

is_some : (r : List ℕ) → Decided (r ≢ [])
is_some [] = inr (λ some. some refl)
is_some (k ∷ r) = inl (λ none. absurd (cc))

are_enough : (trucks : Option ℕ) (routes : ℕ) → Decided (ForSome trucks (λ most. routes ≤ most))
are_enough None routes = inl (λ most is. absurd (cc))
are_enough (Some trucks) routes =
    elim (is_at_most routes trucks) [
      | inl few ↦ inl (λ most is. omega (arith, few, same_number trucks most is))
      | inr many ↦ inr (λ few. many (few trucks refl))
    ]

pub is_lawful : (p : Problem) (routes : List (List ℕ)) → Decided (IsLawful p routes)
is_lawful p routes =
    let served = is_served p (concat routes) in
    let stops = of_all (λ (r : List ℕ). r ≢ []) routes is_some in
    let fits = of_all (λ r. load_of p r ≤ p.capacity) routes (λ r. is_at_most (load_of p r) p.capacity) in
    let few = are_enough p.trucks (length routes) in
    elim (both (IsPermutation (concat routes) (customers p) × All (λ r. r ≢ []) routes) (All (λ r. load_of p r ≤ p.capacity) routes × HasTrucks p (length routes))
    (both (IsPermutation (concat routes) (customers p)) (All (λ r. r ≢ []) routes) served stops) (both (All (λ r. load_of p r ≤ p.capacity) routes) (HasTrucks p (length routes)) fits few)) [
      | inl (a, b) ↦ inl record { served = a.0; stops = a.1; fits = b.0; few = b.1 }
      | inr never ↦ inr (λ lawful. never ((lawful.served, lawful.stops), (lawful.fits, lawful.few)))
    ]
