-- Piles sorted by bands of load and by cost.
use Rattle.std.proofs.Common.{◌≡◌, inl, inr, ℕ, ℤ, ◌≤ℤ◌, zero, suc, ◌<◌, ◌≤◌, ◌+◌, ◌-◌, List, length, get_or, refl, sym, ◌∙◌, subst, arith, false, true, Ordering, Vec}
use Rattle.std.specs.Prelude.{slice_set}
use Rattle.std.specs.Global.{Global}
use Rattle.std.specs.Ordering.{int_cmp, is_lt, nat_cmp, ordering_then}
use Rattle.std.specs.List.{Contains}
use Rattle.std.specs.List.Sorted.{IsPermutation, IsSortedByKey}
use Rattle.std.proofs.lemmas.Bool.Decides.{nat_tests}
use Rattle.std.proofs.lemmas.Bool.{cases_eq, cases_lt, false≢true}
use Rattle.std.proofs.lemmas.Int.{ints}
use Rattle.std.proofs.lemmas.List.{length-set}
use Rattle.std.proofs.lemmas.List.Sorted.{Contains-permutation, IsPermutation-sym}
use Rattle.vrp_duals.specs.Folding.{first_of}
use Rattle.vrp_labels.specs.Closing.{AreKept}
use Rattle.vrp_labels.specs.Graph.{GraphOf}
use Rattle.vrp_labels.specs.Label.{IsClosed, pile_at}
use Rattle.vrp_labels.specs.Sorting.{IsBanded, IsBefore, IsPileSorted, band_at}
use Rattle.vrp_labels.specs.declared.label.Label.{Label}
use Rattle.vrp_labels.proofs.PileSteps.{changed, on_set_other, on_set_same, pile_is, piles_of}

-- what is not less than another comes after it
not_less : (a b : ℕ) (x y : ℤ) → is_lt (ordering_then (nat_cmp b a) (int_cmp y x)) ≡ false → (a ≤ b) × (a ≡ b → x ≤ℤ y)
not_less a b x y h = elim (cases_lt b a) [
  | inl less ↦ absurd (false≢true (sym h ∙ first less))
  | inr above ↦ (above, λ same. at_most x y (second same h))
]
  where
    first : b < a → is_lt (ordering_then (nat_cmp b a) (int_cmp y x)) ≡ true
    first less = grind (arith, nat_tests)

    second : a ≡ b → is_lt (ordering_then (nat_cmp b a) (int_cmp y x)) ≡ false → is_lt (int_cmp y x) ≡ false
    second same h = grind (arith, nat_tests)

    at_most : (a b : ℤ) → is_lt (int_cmp b a) ≡ false → a ≤ℤ b
    at_most a b h = grind (arith, ints)

before_itself : (shift : ℕ) (a : Label) → IsBefore shift a a
before_itself shift a = record { band = omega arith; cost = λ same. itself a.cost }
  where
    itself : (c : ℤ) → c ≤ℤ c
    itself c = omega (arith, ints)

before_trans : (shift : ℕ) (a b c : Label) → IsBefore shift a b → IsBefore shift b c → IsBefore shift a c
before_trans shift a b c p q = record {
  band = omega (arith, p.band, q.band);
  cost = λ same. trans a.cost b.cost c.cost (p.cost (omega (arith, p.band, q.band, same))) (q.cost (omega (arith, p.band, q.band, same)));
}
  where
    trans : (a b c : ℤ) → a ≤ℤ b → b ≤ℤ c → a ≤ℤ c
    trans a b c p q = omega (arith, ints)

-- what a label is sorted by
abbrev pub key_of : ℕ → Label → ℕ × ℤ
key_of shift label = (band_at shift label.load, label.cost)

abbrev pub key_cmp : ℕ × ℤ → ℕ × ℤ → Ordering
key_cmp x y = ordering_then (nat_cmp x.0 y.0) (int_cmp x.1 y.1)

-- neighbours in order make a list in order
in_order : (shift : ℕ) (labels : List Label) → IsSortedByKey (key_of shift) key_cmp labels → (i gap : ℕ) (d : Label) → i + gap < length labels → IsBefore shift (get_or labels i d) (get_or labels (i + gap) d)
in_order shift labels up i zero d lt = subst (λ n. IsBefore shift (get_or labels i d) (get_or labels n d)) (let same : i ≡ i + 0 = omega arith in same) (before_itself shift (get_or labels i d))
in_order shift labels up i (suc gap) d lt =
    let before = in_order shift labels up i gap d (omega (arith, lt)) in
    let this = get_or labels (i + gap) d in
    let next = get_or labels (i + gap + 1) d in
    let both = not_less (band_at shift this.load) (band_at shift next.load) this.cost next.cost (up (i + gap) d (omega arith) (omega (arith, lt))) in
    subst (λ n. IsBefore shift (get_or labels i d) (get_or labels n d)) (let same : i + gap + 1 ≡ i + suc gap = omega arith in same) (before_trans shift (get_or labels i d) this next before (record { band = both.0; cost = both.1 }))

pub banded : (shift : ℕ) (labels : List Label) → IsSortedByKey (key_of shift) key_cmp labels → IsBanded shift labels
banded shift labels up i j d less lt =
    subst (λ n. IsBefore shift (get_or labels i d) (get_or labels n d)) (let same : i + (j - i) ≡ j = omega (arith, less) in same) (in_order shift labels up i (j - i) d (omega (arith, less, lt)))

pub pile_sorted : (shift : ℕ) (vecs : List (Vec Label Global)) (piles : List (List Label)) (at : ℕ) (v w : Vec Label Global) → piles_of vecs ≡ piles → at < length piles → v ≡ get_or vecs at v → IsPermutation v.items w.items
    → IsSortedByKey (key_of shift) key_cmp w.items → IsPileSorted at shift piles (piles_of (slice_set vecs at w))
pile_sorted shift vecs piles at v w is lt read moved up =
    subst (IsPileSorted at shift piles) (sym (changed vecs piles at w w.items is refl)) (record {
      long = length-set piles at w.items;
      moved = subst (λ (p : List Label). IsPermutation p (pile_at (slice_set piles at w.items) at)) (sym (pile_is vecs piles at v is lt read)) (subst (IsPermutation v.items) (sym (on_set_same piles at w.items lt)) moved);
      banded = subst (IsBanded shift) (sym (on_set_same piles at w.items lt)) (banded shift w.items up);
      others = λ other differs. on_set_other piles at other w.items differs;
    })

-- a label stands on a sorted pile where it stood on the pile
stood : (at shift : ℕ) (old new : List (List Label)) → IsPileSorted at shift old new → (place : ℕ) (label : Label) → Contains (pile_at new place) label → Contains (pile_at old place) label
stood at shift old new is place label has = elim (cases_eq place at) [
  | inl same ↦ subst (λ n. Contains (pile_at old n) label) (sym same) (Contains-permutation (pile_at new at) (pile_at old at) label (IsPermutation-sym (pile_at old at) (pile_at new at) is.moved) (subst (λ n. Contains (pile_at new n) label) same has))
  | inr differs ↦ subst (λ (p : List Label). Contains p label) (is.others place differs) has
]

stands : (at shift : ℕ) (old new : List (List Label)) → IsPileSorted at shift old new → (place : ℕ) (label : Label) → Contains (pile_at old place) label → Contains (pile_at new place) label
stands at shift old new is place label has = elim (cases_eq place at) [
  | inl same ↦ subst (λ n. Contains (pile_at new n) label) (sym same) (Contains-permutation (pile_at old at) (pile_at new at) label is.moved (subst (λ n. Contains (pile_at old n) label) same has))
  | inr differs ↦ subst (λ (p : List Label). Contains p label) (sym (is.others place differs)) has
]

pub kept_sorted : (g : GraphOf) (at shift : ℕ) (old new : List (List Label)) → IsPileSorted at shift old new → AreKept g old → AreKept g new
kept_sorted g at shift old new is are = record { long = is.long ∙ are.long; each = λ place label has. are.each place label (stood at shift old new is place label has) }

pub closed_sorted : (g : GraphOf) (gap : ℤ) (at shift : ℕ) (old new : List (List Label)) → IsPileSorted at shift old new → IsClosed g gap old → IsClosed g gap new
closed_sorted g gap at shift old new is closed beginning ending cheap some =
    let (label, has, by) = closed beginning ending cheap some in
    (label, stands at shift old new is (first_of ending) label has, by)

pub banded_sorted : (at shift : ℕ) (old new : List (List Label)) → IsPileSorted at shift old new → ((place : ℕ) → place < at → IsBanded shift (pile_at old place)) → (place : ℕ) → place < at + 1 → IsBanded shift (pile_at new place)
banded_sorted at shift old new is up place lt = elim (cases_eq place at) [
  | inl same ↦ subst (λ n. IsBanded shift (pile_at new n)) (sym same) is.banded
  | inr differs ↦ subst (IsBanded shift) (sym (is.others place differs)) (up place (let less : place < at = omega (arith, lt, differs) in less))
]
