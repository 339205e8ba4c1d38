-- Labels in order, and the numbers of their parents.
use Rattle.std.proofs.Common.{◌≡◌, ℕ, ◌+◌, ◌-◌, ◌<◌, ◌≤◌, inl, inr, nat_lt, List, drop, take, length, get_or, sym, subst, ap, ◌∙◌, arith}
use Rattle.std.specs.List.{AllPairs}
use Rattle.std.specs.List.Sorted.{IsPartitionedBy}
use Rattle.std.proofs.lemmas.Bool.{cases_lt}
use Rattle.std.proofs.lemmas.List.{get_or-drop, get_or-take, get_or_default, length-drop, length-take}
use Rattle.vrp_routes.specs.Level.{ComesFirst}
use Rattle.vrp_routes.specs.Merge.{IsCut}
use Rattle.vrp_routes.specs.declared.label.Label.{Label}
use Rattle.vrp_routes.proofs.NumbersBelow.{is_below, tests_below}
use Rattle.vrp_routes.proofs.SharesSteps.{element}

parents_rise : {X : Type 0} (labels : List (Label X)) → AllPairs ComesFirst labels → (i j : ℕ) (d : Label X) → i ≤ j → j < length labels → (get_or labels i d).parent ≤ (get_or labels j d).parent
parents_rise {X} labels rising i j d le lt = elim (cases_lt i j) [
  | inl less ↦ elim (rising i j d less lt) [
    | inl below ↦ omega (arith, below)
    | inr (same, _) ↦ omega (arith, same)
  ]
  | inr no_less ↦ subst (λ n. (get_or labels i d).parent ≤ (get_or labels n d).parent) (let same : i ≡ j = omega (arith, le, no_less) in same) (omega arith)
]

pub parted_by_parent : {X : Type 0} (labels : List (Label X)) (parent : ℕ) → AllPairs ComesFirst labels → IsPartitionedBy (λ label. nat_lt label.parent parent) labels
parted_by_parent {X} labels parent rising i j d le lt below =
    tests_below (get_or labels i d).parent parent (omega (arith, parents_rise labels rising i j d le lt, is_below (get_or labels j d).parent parent below))

-- these places part the labels by the numbers of their parents
abbrev pub PartBelow : {X : Type 0} → List (Label X) → ℕ → ℕ → Type 0
PartBelow {X} labels parent at = (i : ℕ) (d : Label X) → i < at → (get_or labels i d).parent < parent

abbrev pub PartAbove : {X : Type 0} → List (Label X) → ℕ → ℕ → Type 0
PartAbove {X} labels parent at = (i : ℕ) (d : Label X) → at ≤ i → i < length labels → parent ≤ (get_or labels i d).parent

pub places_rise : {X : Type 0} (labels : List (Label X)) (from to low high : ℕ) → from ≤ to → low ≤ length labels → PartBelow labels from low → PartAbove labels to high → low ≤ high
places_rise {X} labels from to low high some within below above = elim (cases_lt high low) [
  | inl less ↦ (let blank = element labels high (omega (arith, less, within)) in absurd (omega (arith, some, below high blank less, above high blank (omega arith) (omega (arith, less, within)))))
  | inr no_less ↦ omega (arith, no_less)
]

pub cut_between : {X : Type 0} (labels : List (Label X)) (from to low high : ℕ) → low ≤ high → high ≤ length labels → AllPairs ComesFirst labels
    → PartBelow labels from low → PartAbove labels from low → PartBelow labels to high → PartAbove labels to high → IsCut from to labels (take (high - low) (drop low labels))
cut_between {X} labels from to low high some within rising below_low above_low below_high above_high = record {
  among = λ i d lt.
      let here : i < high - low = omega (arith, lt, long) in
      let same = there i d here in (
        (low + i, omega (arith, here, some, within), own_element (low + i) d (get_or cut i d) (sym same) (omega (arith, here, some, within))),
        (
          subst (λ (l : Label X). from ≤ l.parent) (sym same) (above_low (low + i) d (omega arith) (omega (arith, here, some, within))),
          subst (λ (l : Label X). l.parent < to) (sym same) (below_high (low + i) d (omega (arith, here, some))),
        ),
      );
  all = λ label (at, lt, is) between. elim (cases_lt at low) [
    | inl less ↦ absurd (omega (arith, between.0, ap (λ (l : Label X). l.parent) is, below_low at label less))
    | inr no_less ↦ elim (cases_lt at high) [
      | inl less ↦
          let place : low + (at - low) ≡ at = omega (arith, no_less) in
          (at - low, omega (arith, no_less, less, long), there (at - low) label (omega (arith, no_less, less)) ∙ ap (λ n. get_or labels n label) place ∙ is)
      | inr behind ↦ absurd (omega (arith, between.1, ap (λ (l : Label X). l.parent) is, above_high at label (omega (arith, behind)) lt))
    ]
  ];
  ordered = λ i j d less lt.
      let inside : j < high - low = omega (arith, lt, long) in
      subst (λ x. ComesFirst x (get_or cut j d)) (sym (there i d (omega (arith, less, inside)))) (subst (ComesFirst (get_or labels (low + i) d)) (sym (there j d inside)) (rising (low + i) (low + j) d (omega (arith, less)) (omega (arith, inside, some, within))));
}
  where
    cut : List (Label X)
    cut = take (high - low) (drop low labels)

    long : length cut ≡ high - low
    long = omega (arith, length-take (high - low) (drop low labels), length-drop low labels, some, within)

    there : (i : ℕ) (d : Label X) → i < high - low → get_or cut i d ≡ get_or labels (low + i) d
    there i d lt = get_or-take (high - low) (drop low labels) i d lt ∙ get_or-drop low labels i d

    own_element : (n : ℕ) (d label : Label X) → get_or labels n d ≡ label → n < length labels → get_or labels n label ≡ label
    own_element n d label is lt = get_or_default labels n label d lt ∙ is
