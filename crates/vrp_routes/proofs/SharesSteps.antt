-- What several workers find, put together.
use Rattle.std.proofs.Common.{◌≡◌, ℕ, ◌+◌, ◌-◌, ◌%◌, ◌<◌, true, inl, inr, Ok, Err, IfOk, Result, List, Vec, Global, [], ◌∷◌, ◌++◌, map, length, length-append, get_or, refl, sym, ap, subst, ◌∙◌, append_assoc, append-nil, arith}
use Rattle.std.proofs.lemmas.Bool.{cases_lt}
use Rattle.std.proofs.lemmas.List.{get_or-append_right, get_or-map, get_or_append_left, get_or_push, length-map, map_push}
use Rattle.vrp_routes.specs.Label.{SettingOf}
use Rattle.vrp_routes.specs.Level.{IsShare}
use Rattle.vrp_routes.specs.Share.{has_rest, is_in_first}
use Rattle.vrp_routes.specs.Shares.{AreParts}
use Rattle.vrp_routes.specs.declared.label.Label.{Label}
use Rattle.vrp_routes.proofs.NumbersBelow.{tests_below}

-- all customers are in one of all shares
pub in_some_share : (workers c : ℕ) → 0 < workers → is_in_first workers workers c ≡ true
in_some_share workers c some = tests_below (c % workers) workers (omega arith)

-- the parts of more shares
pub more_parts : {X : Type 0} (s : SettingOf X) (k : ℕ) (before : List (List ℕ)) (shares : ℕ) (xs ys : List (Vec (Label X) Global)) → AreParts s k before shares 0 xs → AreParts s k before shares (length xs) ys → AreParts s k before shares 0 (xs ++ ys)
more_parts {X} s k before shares xs ys first more i d lt = elim (cases_lt i (length xs)) [
  | inl below ↦ subst (λ (v : Vec (Label X) Global). IsShare s k (has_rest shares (0 + i)) before v.items) (sym (get_or_append_left xs ys d i below)) (first i d below)
  | inr above ↦
      let place : length xs + (i - length xs) ≡ 0 + i = omega (arith, above) in
      subst (λ (v : Vec (Label X) Global). IsShare s k (has_rest shares (0 + i)) before v.items) (sym (get_or-append_right xs ys (length xs) i d refl above))
      (subst (λ n. IsShare s k (has_rest shares n) before (get_or ys (i - length xs) d).items) place (more (i - length xs) d (omega (arith, above, lt, length-append xs ys))))
]

-- ---- values

pub one_value_more : {X E : Type 0} (results rest more : List (Result X E)) (old new : List X) (result : Result X E) (x : X) → results ≡ map (λ y. Ok y) old ++ rest → rest ≡ result ∷ more → result ≡ Ok x → new ≡ old ++ x ∷ [] → results ≡ map (λ y. Ok y) new ++ more
one_value_more {X} {E} results rest more old new result x is next value longer =
    let Value : X → Result X E = λ y. Ok y in
    is ∙ ap (λ (rs : List (Result X E)). map Value old ++ rs) (next ∙ ap (λ (r : Result X E). r ∷ more) value)
    ∙ sym (ap (λ (xs : List X). map Value xs ++ more) longer ∙ ap (λ (rs : List (Result X E)). rs ++ more) (map_push Value old x) ∙ append_assoc (map Value old) (Ok x ∷ []) more)

pub all_values : {X E : Type 0} (results rest : List (Result X E)) (all : List X) → results ≡ map (λ y. Ok y) all ++ rest → rest ≡ [] → results ≡ map (λ y. Ok y) all
all_values {X} {E} results rest all is none = let Value : X → Result X E = λ y. Ok y in is ∙ ap (λ (rs : List (Result X E)). map Value all ++ rs) none ∙ append-nil (map Value all)

pub value_at : {X E : Type 0} (results : List (Result X E)) (all : List X) (i : ℕ) (d : Result X E) (e : X) → results ≡ map (λ y. Ok y) all → i < length all → get_or results i d ≡ Ok (get_or all i e)
value_at {X} {E} results all i d e is lt = let Value : X → Result X E = λ y. Ok y in ap (λ (rs : List (Result X E)). get_or rs i d) is ∙ get_or-map Value all i e d lt

pub count_values : {X E : Type 0} (results : List (Result X E)) (all : List X) → results ≡ map (λ y. Ok y) all → length results ≡ length all
count_values {X} {E} results all is = let Value : X → Result X E = λ y. Ok y in ap length is ∙ length-map all Value

pub if_ok : {X E : Type 0} (r : Result X E) (P Q : X → Type 0) → ((x : X) → P x → Q x) → IfOk r P → IfOk r Q
if_ok (Ok x) P Q f holds = f x holds
if_ok (Err e) P Q f holds = tt

-- what is known of each job's result is known of each value
pub of_value : {X E : Type 0} (r : Result X E) (x : X) (P : X → Type 0) → r ≡ Ok x → IfOk r P → P x
of_value {X} {E} r x P is holds = subst (λ (t : Result X E). IfOk t P) is holds

-- what holds of a value, and what else does
pub both_ok : {X E : Type 0} (result : Result X E) (P Q : X → Type 0) → IfOk result P → IfOk result Q → IfOk result (λ x. P x × Q x)
both_ok (Ok x) P Q one other = (one, other)
both_ok (Err e) P Q one other = one

-- an element of a list
pub element : {X : Type 0} (xs : List X) (i : ℕ) → i < length xs → X
element [] i lt = absurd (omega (arith, lt))
element (x ∷ xs) i lt = x

-- what holds of each element, and of one more
pub at_each_more : {X : Type 0} (P : ℕ → X → Type 0) (xs ys : List X) (x : X) (n : ℕ) → ys ≡ xs ++ x ∷ [] → length xs ≡ n → ((i : ℕ) (d : X) → i < n → P i (get_or xs i d)) → P n x → (i : ℕ) (d : X) → i < n + 1 → P i (get_or ys i d)
at_each_more {X} P xs ys x n longer long each holds i d lt =
    subst (λ (zs : List X). P i (get_or zs i d)) (sym longer) (elim (cases_lt i n) [
      | inl less ↦ subst (P i) (sym (get_or_append_left xs (x ∷ []) d i (omega (arith, less, long)))) (each i d less)
      | inr here ↦
          let same : n ≡ i = omega (arith, here, lt) in
          subst (P i) (sym (get_or_push xs x d i (long ∙ same))) (subst (λ m. P m x) same holds)
    ])
