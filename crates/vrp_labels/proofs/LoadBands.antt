-- Bands of load.
use Rattle.std.proofs.Common.{◌≡◌, inl, inr, ℕ, ℤ, ◌+◌, ◌*◌, ◌^◌, ◌<◌, ◌≤◌, ◌≤ℤ◌, List, length, get_or, sym, ◌∙◌, subst, arith, unsigned_abs}
use Rattle.std.specs.List.{slice_range}
use Rattle.std.proofs.lemmas.Bool.{cases_eq, cases_lt}
use Rattle.std.proofs.lemmas.Int.{ints}
use Rattle.std.proofs.lemmas.List.{get_or_default}
use Rattle.vrp_labels.specs.Bands.{IsBand, label_at}
use Rattle.vrp_labels.specs.Label.{root_label}
use Rattle.vrp_labels.specs.Sorting.{IsBanded, IsRising, band_at}
use Rattle.vrp_labels.specs.declared.label.Label.{Label}
use Rattle.vrp_labels.proofs.Slices.{get_or_part, length_part}

-- the first labels of a pile, as far as they were looked at for one band
pub record IsScanned (shift b : ℕ) (pile : List Label) (from to : ℕ) (least : ℤ) : Type 0 where
  pub order : from ≤ to
  pub below : (k : ℕ) → k < from → band_at shift (label_at pile k).load < b
  pub mine : (k : ℕ) → from ≤ k → k < to → band_at shift (label_at pile k).load ≡ b
  pub cheapest : (k : ℕ) → k < to → least ≤ℤ (label_at pile k).cost
  pub small : unsigned_abs least ≤ 3 * 2 ^ 60

scanned_rising : (shift b : ℕ) (pile : List Label) (from to : ℕ) (least : ℤ) → IsBanded shift pile → IsScanned shift b pile from to least → to ≤ length pile → IsRising (slice_range pile from to)
scanned_rising shift b pile from to least banded is within i j d less lt =
    let long = length_part pile from to is.order within in
    let before = banded (from + i) (from + j) d (omega (arith, less)) (omega (arith, lt, long, within, is.order)) in
    let at = λ (k : ℕ) (inside : from + k < to).
    subst (λ (l : Label). band_at shift l.load ≡ b) (get_or_default pile (from + k) root_label d (omega (arith, inside, within))) (is.mine (from + k) (omega arith) inside) in
    let cheaper : (get_or pile (from + i) d).cost ≤ℤ (get_or pile (from + j) d).cost = before.cost (at i (omega (arith, less, lt, long, is.order)) ∙ sym (at j (omega (arith, lt, long, is.order)))) in
    subst (λ (l : Label). l.cost ≤ℤ (get_or (slice_range pile from to) j d).cost) (sym (get_or_part pile from to i d (omega (arith, less, lt, long))))
    (subst (λ (l : Label). (get_or pile (from + i) d).cost ≤ℤ l.cost) (sym (get_or_part pile from to j d (omega (arith, lt, long)))) cheaper)

-- from a label of a higher band on, all are of higher bands
pub scanned_band : (shift b : ℕ) (pile : List Label) (from to : ℕ) (least : ℤ) → IsBanded shift pile → IsScanned shift b pile from to least → to ≤ length pile
    → ((k : ℕ) → to ≤ k → k < length pile → b < band_at shift (label_at pile k).load) → IsBand shift b pile (record { from = from; to = to; least = least })
scanned_band shift b pile from to least banded is within above = record {
  order = is.order;
  within = within;
  mine = λ k lt same. (
    elim (cases_lt k from) [ inl low ↦ absurd (omega (arith, is.below k low, same)) | inr here ↦ here ],
    elim (cases_lt k to) [ inl here ↦ here | inr high ↦ absurd (omega (arith, above k high lt, same)) ],
  );
  rising = scanned_rising shift b pile from to least banded is within;
  least = λ k lt low. elim (cases_lt k to) [ inl here ↦ is.cheapest k here | inr high ↦ absurd (omega (arith, above k high lt, low)) ];
  small = is.small;
}

pub higher_on : (shift b : ℕ) (pile : List Label) (i : ℕ) → IsBanded shift pile → b < band_at shift (label_at pile i).load → (k : ℕ) → i ≤ k → k < length pile → b < band_at shift (label_at pile k).load
higher_on shift b pile i banded above k past lt = elim (cases_eq i k) [
  | inl same ↦ subst (λ n. b < band_at shift (label_at pile n).load) same above
  | inr differs ↦ omega (arith, above, (banded i k root_label (let less : i < k = omega (arith, past, differs) in less) lt).band)
]

-- one label more, of this band or a lower one
pub scanned_more : (shift b : ℕ) (pile : List Label) (from next to : ℕ) (least lesser : ℤ) → IsBanded shift pile → to < length pile → IsScanned shift b pile from to least
    → lesser ≤ℤ least → lesser ≤ℤ (label_at pile to).cost → unsigned_abs lesser ≤ 3 * 2 ^ 60
    → (band_at shift (label_at pile to).load < b → next ≡ from + 1) → (b ≤ band_at shift (label_at pile to).load → next ≡ from) → band_at shift (label_at pile to).load ≤ b
    → IsScanned shift b pile next (to + 1) lesser
scanned_more shift b pile from next to least lesser banded lt is low here small lower same le = elim (cases_lt (band_at shift (label_at pile to).load) b) [
  | inl less ↦
      let more : next ≡ from + 1 = lower less in
      let all : from ≡ to = all_below less in
      record {
        order = omega (arith, is.order, more);
        below = λ k before. elim (cases_lt k from) [
          | inl first ↦ is.below k first
          | inr last ↦ subst (λ n. band_at shift (label_at pile n).load < b) (let here : to ≡ k = omega (arith, before, last, more, all) in here) less
        ];
        mine = λ k past before. absurd (omega (arith, past, before, more, all));
        cheapest = cheapest;
        small = small;
      }
  | inr not_less ↦
      let stays : next ≡ from = same not_less in
      record {
        order = omega (arith, is.order, stays);
        below = λ k before. is.below k (omega (arith, before, stays));
        mine = λ k past before. elim (cases_lt k to) [
          | inl first ↦ is.mine k (omega (arith, past, stays)) first
          | inr last ↦ subst (λ n. band_at shift (label_at pile n).load ≡ b) (let here : to ≡ k = omega (arith, before, last) in here) (let equal : band_at shift (label_at pile to).load ≡ b = omega (arith, not_less, le) in equal)
        ];
        cheapest = cheapest;
        small = small;
      }
]
  where
    trans : (a b c : ℤ) → a ≤ℤ b → b ≤ℤ c → a ≤ℤ c
    trans a b c p q = omega (arith, ints)

    cheapest : (k : ℕ) → k < to + 1 → lesser ≤ℤ (label_at pile k).cost
    cheapest k before = elim (cases_lt k to) [
      | inl first ↦ trans lesser least (label_at pile k).cost low (is.cheapest k first)
      | inr last ↦ subst (λ n. lesser ≤ℤ (label_at pile n).cost) (let here : to ≡ k = omega (arith, before, last) in here) here
    ]

    all_below : band_at shift (label_at pile to).load < b → from ≡ to
    all_below less = elim (cases_lt from to) [
      | inl some ↦ absurd (omega (arith, is.mine from (omega arith) some, (banded from to root_label some lt).band, less))
      | inr none ↦ omega (arith, none, is.order)
    ]
