-- What a walk remembers, read off the ng-set at its first stop.
use Rattle.std.proofs.Common.{◌≡◌, ℕ, ◌+◌, ◌*◌, ◌/◌, ◌%◌, ◌^◌, ◌<◌, ◌≤◌, ◌==◌, ◌&&◌, ◌||◌, Bool, true, false, if◌then◌else◌, inl, inr, List, [], ◌∷◌, length, get_or, drop, refl, sym, ap, ◌∙◌, eq-eqb, arith}
use Rattle.std.proofs.Math.Nat.{pow-suc}
use Rattle.std.specs.List.{Contains, filter}
use Rattle.std.proofs.lemmas.Bool.{cases_Bool, eqb-true, false≢true, or_cases, true≢false}
use Rattle.std.proofs.lemmas.List.{drop_more}
use Rattle.std.proofs.lemmas.List.Folds.{list_any_at}
use Rattle.vrp_model.specs.Word.{stands_in}
use Rattle.vrp_model.proofs.DistinctLists.{behind_head}
use Rattle.vrp_model.specs.NgSets.{bits_of, has_bit, ng_set_of, recalls}
use Rattle.vrp_model.specs.NgWalks.{remembered}

-- ---- standing in a list, as a test and as a fact

pub stands_contained : (xs : List ℕ) (k : ℕ) → stands_in xs k ≡ true → Contains xs k
stands_contained [] k stands = absurd (false≢true stands)
stands_contained (x ∷ xs) k stands = elim (or_cases (x == k) (stands_in xs k) stands) [
  | inl here ↦ (0, omega arith, eqb-true x k here)
  | inr rest ↦ behind_head x k xs (stands_contained xs k rest)
]

pub contained_stands : (xs : List ℕ) (k : ℕ) → Contains xs k → stands_in xs k ≡ true
contained_stands xs k (i, lt, is) = list_any_at (λ x. x == k) xs i k lt (eq-eqb (get_or xs i k) k is)

-- ---- what a filter keeps

kept_head : (passes here kept stands : Bool) → (here ≡ true → passes ≡ true) → kept ≡ (passes && stands) → (here || kept) ≡ (passes && (here || stands))
kept_head true true kept stands same is = refl
kept_head true false kept stands same is = is
kept_head false true kept stands same is = absurd (false≢true (same refl))
kept_head false false kept stands same is = is

dropped_head : (passes here kept stands : Bool) → (here ≡ true → passes ≡ false) → kept ≡ (passes && stands) → kept ≡ (passes && (here || stands))
dropped_head true true kept stands same is = absurd (true≢false (same refl))
dropped_head true false kept stands same is = is
dropped_head false here kept stands same is = is

and_none : (b : Bool) → false ≡ (b && false)
and_none true = refl
and_none false = refl

stands_kept : (test : ℕ → Bool) (xs : List ℕ) (c : ℕ) → stands_in (filter test xs) c ≡ (test c && stands_in xs c)
stands_kept test [] c = and_none (test c)
stands_kept test (x ∷ xs) c =
    let rest = stands_kept test xs c in
    elim (cases_Bool (test x)) [
      | inl kept ↦ rw kept (kept_head (test c) (x == c) (stands_in (filter test xs) c) (stands_in xs c) (λ same. ap test (sym (eqb-true x c same)) ∙ kept) rest)
      | inr dropped ↦ rw dropped (dropped_head (test c) (x == c) (stands_in (filter test xs) c) (stands_in xs c) (λ same. ap test (sym (eqb-true x c same)) ∙ dropped) rest)
    ]

-- ---- the bits of an ng-set

lowest_bit : (test : Bool) (more : ℕ) → (((if test then 1 else 0) + 2 * more) % 2 == 1) ≡ test
lowest_bit true more = let one : (1 + 2 * more) % 2 ≡ 1 = omega arith in rw one refl
lowest_bit false more = let none : (0 + 2 * more) % 2 ≡ 0 = omega arith in rw none refl

higher_bits : (test : Bool) (more : ℕ) → ((if test then 1 else 0) + 2 * more) / 2 ≡ more
higher_bits true more = omega arith
higher_bits false more = omega arith

absorbed : (stands passes : Bool) → (passes || (stands && passes)) ≡ passes
absorbed stands true = refl
absorbed true false = refl
absorbed false false = refl

bit_head : (here stands passes set : Bool) → (here ≡ true → set ≡ passes) → ((here && set) || (stands && passes)) ≡ ((here || stands) && passes)
bit_head true stands passes set same = let is = same refl in rw is (absorbed stands passes)
bit_head false stands passes set same = refl

-- a customer's bit is set where it is one of these and passes
bit_is_test : (test : ℕ → Bool) (xs : List ℕ) (c : ℕ) → has_bit xs (bits_of test xs) c ≡ (stands_in xs c && test c)
bit_is_test test [] c = refl
bit_is_test test (x ∷ xs) c =
    let lowest = lowest_bit (test x) (bits_of test xs) in
    let higher = higher_bits (test x) (bits_of test xs) in
    rw (lowest, higher, bit_is_test test xs c) (bit_head (x == c) (stands_in xs c) (test c) (test x) (λ same. ap test (eqb-true x c same)))

-- what is remembered is what is recalled with the ng-set at the first stop
pub is_recalled : (near : ℕ → List ℕ) (stop : ℕ) (stops : List ℕ) (c : ℕ) → stands_in (remembered near (stop ∷ stops)) c ≡ recalls (near stop) stop (ng_set_of near stop stops) c
is_recalled near stop stops c =
    let behind = remembered near stops in
    ap (λ (b : Bool). (stop == c) || b) (stands_kept (stands_in (near stop)) behind c ∙ sym (bit_is_test (stands_in behind) (near stop) c))

pub same_bits : (one other : ℕ → Bool) (xs : List ℕ) → ((c : ℕ) → one c ≡ other c) → bits_of one xs ≡ bits_of other xs
same_bits one other [] same = refl
same_bits one other (x ∷ xs) same = let here = same x in rw (here, same_bits one other xs same) refl

-- so the ng-set before a stop follows from that at the stop
pub ng_set_longer : (near : ℕ → List ℕ) (at stop : ℕ) (stops : List ℕ) → ng_set_of near at (stop ∷ stops) ≡ bits_of (recalls (near stop) stop (ng_set_of near stop stops)) (near at)
ng_set_longer near at stop stops = same_bits (stands_in (remembered near (stop ∷ stops))) (recalls (near stop) stop (ng_set_of near stop stops)) (near at) (is_recalled near stop stops)

one_bit : (test : Bool) → (if test then 1 else 0) ≤ 1
one_bit true = omega arith
one_bit false = omega arith

-- bits make a number below that power of two
pub few_bits : (test : ℕ → Bool) (xs : List ℕ) → bits_of test xs < 2 ^ length xs
few_bits test [] = omega arith
few_bits test (x ∷ xs) = omega (arith, few_bits test xs, one_bit (test x), pow-suc 2 (length xs))

-- nothing is remembered of no stops
pub no_bits : (test : ℕ → Bool) (xs : List ℕ) → ((c : ℕ) → test c ≡ false) → bits_of test xs ≡ 0
no_bits test [] none = refl
no_bits test (x ∷ xs) none = let here = none x in rw (here, no_bits test xs none) refl

-- ---- the bits one after another

-- one customer more, which passes, or which doesn't
pub bit_set : (test : ℕ → Bool) (xs : List ℕ) (i bits bit new : ℕ) → i < length xs → test (get_or xs i 0) ≡ true → new ≡ bits + bit → bits + bit * bits_of test (drop i xs) ≡ bits_of test xs → new + bit * 2 * bits_of test (drop (i + 1) xs) ≡ bits_of test xs
bit_set test xs i bits bit new inside passes is so_far =
    let one : ◌≡◌ {A = ℕ} (if test (get_or xs i 0) then 1 else 0) 1 = rw passes refl in
    let split : bits_of test (drop i xs) ≡ (if test (get_or xs i 0) then 1 else 0) + 2 * bits_of test (drop (i + 1) xs) = ap (bits_of test) (drop_more xs i 0 inside) in
    let here : bits_of test (drop i xs) ≡ 1 + 2 * bits_of test (drop (i + 1) xs) = omega (arith, one, split) in
    omega (arith, so_far, is, ap (λ n. bit * n) here)

pub bit_cleared : (test : ℕ → Bool) (xs : List ℕ) (i bits bit new : ℕ) → i < length xs → test (get_or xs i 0) ≡ false → new ≡ bits → bits + bit * bits_of test (drop i xs) ≡ bits_of test xs → new + bit * 2 * bits_of test (drop (i + 1) xs) ≡ bits_of test xs
bit_cleared test xs i bits bit new inside fails is so_far =
    let none : ◌≡◌ {A = ℕ} (if test (get_or xs i 0) then 1 else 0) 0 = rw fails refl in
    let split : bits_of test (drop i xs) ≡ (if test (get_or xs i 0) then 1 else 0) + 2 * bits_of test (drop (i + 1) xs) = ap (bits_of test) (drop_more xs i 0 inside) in
    let here : bits_of test (drop i xs) ≡ 2 * bits_of test (drop (i + 1) xs) = omega (arith, none, split) in
    omega (arith, so_far, is, ap (λ n. bit * n) here)
