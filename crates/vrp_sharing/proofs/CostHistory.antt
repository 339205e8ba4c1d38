-- The history of costs, once one seat has taken in all callers.
use Rattle.std.proofs.Common.{◌≡◌, ◌≢◌, ℕ, zero, suc, ◌+◌, ◌<◌, ◌≤◌, ◌==◌, List, [], ◌∷◌, length, map, refl, sym, ap, ◌∙◌, arith, cond, eq-eqb, ne_eqb}
use Rattle.std.specs.List.{All, AllPairs, Contains, sum_by}
use Rattle.std.proofs.lemmas.List.Elements.{All-head, All-tail}
use Rattle.std.proofs.lemmas.List.Sums.{sum_by-cons}
use mathlib.Core.Option.{some, some-injective}
use native.Mathlib.Decide.{ℕ_discrete}
use lib.ListN.{get_elem?}
use Rattle.atomic_table.specs.Table.{Final, Seen}
use Rattle.vrp_sharing.specs.declared.view.Offer.{Offer}
use Rattle.vrp_sharing.specs.declared.view.Known.{Known}
use Rattle.vrp_sharing.specs.Costs.{IsHistoryOf, IsKnown, least_of, offers_by}
use Rattle.vrp_sharing.specs.Inner.Kept.{IsCostState}
use Rattle.vrp_sharing.specs.Inner.Seats.{seat_with}

-- how many of the callers have this number
abbrev times : ℕ → List Known → ℕ
times q [] = 0
times q (k ∷ ks) = cond (q == k.number) 1 0 + times q ks

-- the sum below a bound
abbrev upto : (ℕ → ℕ) → ℕ → ℕ
upto f zero = 0
upto f (suc n) = f n + upto f n

abbrev is_at : ℕ → ℕ → ℕ
is_at m q = cond (q == m) 1 0

upto_zero : (n : ℕ) → upto (λ q. 0) n ≡ 0
upto_zero zero = refl
upto_zero (suc n) = let e = upto_zero n in omega (arith, e)

upto_plus : (f g : ℕ → ℕ) (n : ℕ) → upto (λ q. f q + g q) n ≡ upto f n + upto g n
upto_plus f g zero = refl
upto_plus f g (suc n) = let e = upto_plus f g n in omega (arith, e)

upto_none : (m n : ℕ) → n ≤ m → upto (is_at m) n ≡ 0
upto_none m zero le = refl
upto_none m (suc n) le = let e = upto_none m n (omega arith) in rw (ne_eqb n m (λ h. omega arith)) (omega (arith, e))

upto_one : (m n : ℕ) → m < n → upto (is_at m) n ≡ 1
upto_one m zero less = absurd (omega arith)
upto_one m (suc n) less = by_case (upto_one m n) (ℕ_discrete n m)
  where
    by_case : (m < n → upto (is_at m) n ≡ 1) → Dec (n ≡ m) → cond (n == m) 1 0 + upto (is_at m) n ≡ 1
    by_case rest (yes e) = rw (eq-eqb n m e) (ap (λ k. 1 + k) (upto_none m n (omega (arith, e))))
    by_case rest (no ne) = rw (ne_eqb n m ne) (let h = rest (omega (arith, ne)) in omega (arith, h))

upto_le : (f : ℕ → ℕ) (n : ℕ) → ((q : ℕ) → f q ≤ 1) → upto f n ≤ n
upto_le f zero small = omega arith
upto_le f (suc n) small = let a = upto_le f n small in let b = small n in omega arith

all_one : (f : ℕ → ℕ) (n : ℕ) → ((q : ℕ) → f q ≤ 1) → upto f n ≡ n → (q : ℕ) → q < n → f q ≡ 1
all_one f zero small whole q less = absurd (omega arith)
all_one f (suc n) small whole q less =
    let a = upto_le f n small in
    let b = small n in
    let here : f n ≡ 1 = omega arith in
    let rest : upto f n ≡ n = omega arith in
    by_case here (all_one f n small rest q) (ℕ_discrete q n)
  where
    by_case : f n ≡ 1 → (q < n → f q ≡ 1) → Dec (q ≡ n) → f q ≡ 1
    by_case here rest (yes e) = ap f e ∙ here
    by_case here rest (no ne) = rest (omega (arith, ne))

upto_times : (ks : List Known) (n : ℕ) → All (λ (k : Known). k.number < n) ks → upto (λ q. times q ks) n ≡ length ks
upto_times [] n below = upto_zero n
upto_times (k ∷ ks) n below =
    let head = All-head (λ (x : Known). x.number < n) k ks below in
    let rest = upto_times ks n (All-tail (λ (x : Known). x.number < n) k ks below) in
    upto_plus (is_at k.number) (λ q. times q ks) n ∙ (ap (λ a. a + upto (λ q. times q ks) n) (upto_one k.number n head) ∙ ap (λ a. 1 + a) rest ∙ omega arith)

times_none : (q : ℕ) (ks : List Known) → All (λ (k : Known). q ≢ k.number) ks → times q ks ≡ 0
times_none q [] all = refl
times_none q (k ∷ ks) all = rw (ne_eqb q k.number (All-head (λ (x : Known). q ≢ x.number) k ks all)) (let h = times_none q ks (All-tail (λ (x : Known). q ≢ x.number) k ks all) in omega (arith, h))

times_le : (q : ℕ) (ks : List Known) → AllPairs (λ (a b : Known). a.number ≢ b.number) ks → times q ks ≤ 1
times_le q [] apart = omega arith
times_le q (k ∷ ks) apart = by_case (times_le q ks (λ i j d less within. apart (suc i) (suc j) d (omega arith) (omega arith))) (ℕ_discrete q k.number)
  where
    others : All (λ (x : Known). k.number ≢ x.number) ks
    others i d lt = apart 0 (suc i) d (omega arith) (omega arith)

    by_case : times q ks ≤ 1 → Dec (q ≡ k.number) → cond (q == k.number) 1 0 + times q ks ≤ 1
    by_case rest (yes e) = rw (eq-eqb q k.number e) (let none = times_none q ks (λ i d lt h. others i d lt (sym e ∙ h)) in omega arith)
    by_case rest (no ne) = rw (ne_eqb q k.number ne) (omega arith)

once : (ks : List Known) (n : ℕ) → AllPairs (λ (a b : Known). a.number ≢ b.number) ks → All (λ (k : Known). k.number < n) ks → length ks ≡ n → (q : ℕ) → q < n → times q ks ≡ 1
once ks n apart below all = all_one (λ q. times q ks) n (λ q. times_le q ks apart) (upto_times ks n below ∙ all)

contains : (q : ℕ) (ks : List Known) → times q ks ≡ 1 → Contains (map (λ (k : Known). k.number) ks) q
contains q [] e = absurd (omega arith)
contains q (k ∷ ks) e = by_case (contains q ks) (ℕ_discrete q k.number)
  where
    by_case : (times q ks ≡ 1 → Contains (map (λ (x : Known). x.number) ks) q) → Dec (q ≡ k.number) → Contains (map (λ (x : Known). x.number) (k ∷ ks)) q
    by_case rest (yes same) = (0, omega arith, sym same)
    by_case rest (no ne) = let e' = rw (ne_eqb q k.number ne) at e in let h = rest (omega (arith, e')) in (suc h.0, (let lt = h.1 in omega arith), h.2)

abbrev all_offers : List Offer → List Known → ℕ
all_offers history ks = sum_by (λ (k : Known). length (offers_by k.number history)) ks

offers_more : (o : Offer) (history : List Offer) (ks : List Known) → all_offers (o ∷ history) ks ≡ times o.caller ks + all_offers history ks
offers_more o history [] = refl
offers_more o history (k ∷ ks) =
    let rest = offers_more o history ks in
    let here = one_more (ℕ_discrete o.caller k.number) in
    omega (arith, sum_by-cons (λ (x : Known). length (offers_by x.number (o ∷ history))) k ks, sum_by-cons (λ (x : Known). length (offers_by x.number history)) k ks, here, rest)
  where
    one_more : Dec (o.caller ≡ k.number) → length (offers_by k.number (o ∷ history)) ≡ cond (o.caller == k.number) 1 0 + length (offers_by k.number history)
    one_more (yes e) = rw (eq-eqb o.caller k.number e) (omega arith)
    one_more (no ne) = rw (ne_eqb o.caller k.number ne) (omega arith)

no_offers : (ks : List Known) → all_offers [] ks ≡ 0
no_offers [] = refl
no_offers (k ∷ ks) = let rest = no_offers ks in omega (arith, sum_by-cons (λ (x : Known). length (offers_by x.number [])) k ks)

counted : (history : List Offer) (ks : List Known) → All (λ (o : Offer). times o.caller ks ≡ 1) history → length history ≡ all_offers history ks
counted [] ks all = sym (no_offers ks)
counted (o ∷ history) ks all =
    let here = All-head (λ (x : Offer). times x.caller ks ≡ 1) o history all in
    let rest = counted history ks (All-tail (λ (x : Offer). times x.caller ks ≡ 1) o history all) in
    omega (arith, offers_more o history ks, here, rest)

mines : (opening : ℕ) (history : List Offer) (ks : List Known) → All (IsKnown opening history) ks → all_offers history ks ≡ sum_by (λ (k : Known). length k.mine) ks
mines opening history [] all = refl
mines opening history (k ∷ ks) all =
    let here = ap (λ (m : List Offer). length m) (All-head (IsKnown opening history) k ks all).mine in
    let rest = mines opening history ks (All-tail (IsKnown opening history) k ks all) in
    omega (arith, sum_by-cons (λ (x : Known). length (offers_by x.number history)) k ks, sum_by-cons (λ (x : Known). length x.mine) k ks, here, rest)

pub settles : (key : ℕ × ℕ) (id : ℕ) (callers : List Known) (words xs : List ℕ) (least : ℕ) → Final (Seen (IsCostState key) id (seat_with callers)) words xs
    → get_elem? words 0 ≡ some least → length callers ≡ key.1 → (history : List Offer) × IsHistoryOf key.0 callers history × (length history ≡ sum_by (λ k. length k.mine) callers) × (least ≡ least_of key.0 history)
settles key id callers words xs least final word all =
    let kept = final.1.0 in
    let f = kept.fits id (seat_with callers) final.1.1 in
    let each : All (λ (o : Offer). times o.caller callers ≡ 1) kept.history = λ i d lt. once callers key.1 f.apart f.below all _ (kept.below i d lt) in
    let is_word : some (least_of key.0 kept.history) ≡ some least = ap (λ (ws : List ℕ). get_elem? ws 0) (sym kept.word ∙ final.2) ∙ word in (
      kept.history,
      record {
        known = f.known;
        no_other = λ i d lt. contains _ callers (each i d lt);
      },
      counted kept.history callers each ∙ mines key.0 kept.history callers f.known,
      sym (some-injective _ _ is_word),
    )
