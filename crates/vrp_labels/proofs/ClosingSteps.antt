-- The steps of the closure, and what holds at its end.
use Rattle.std.proofs.Common.{◌≡◌, ◌≢◌, ◌⊎◌, inl, inr, ℕ, ℤ, zero, suc, ◌<◌, ◌≤◌, ◌+◌, List, [], ◌∷◌, ◌++◌, length, get_or, refl, sym, ◌∙◌, ap, subst, arith, drop}
use Rattle.std.specs.Prelude.{slice_set}
use Rattle.std.specs.List.{All, Any, Contains}
use Rattle.std.specs.List.Sorted.{IsPermutation}
use Rattle.std.proofs.lemmas.Bool.{cases_eq, cases_lt}
use Rattle.std.proofs.lemmas.List.{drop_more, get_or_default, length-set}
use Rattle.std.proofs.lemmas.List.Elements.{All-head, All-tail, Contains-get_or}
use Rattle.std.proofs.lemmas.List.Sorted.{All-permutation, Contains-permutation}
use Rattle.vrp_duals.specs.Folding.{first_of}
use Rattle.vrp_labels.specs.Graph.{GraphOf, IsGraph}
use Rattle.vrp_labels.specs.Route.{IsCheap, joined}
use Rattle.vrp_labels.specs.Label.{Dominates, IsClosed, IsLabelOf, IsBeyondGap, MayExtend, StandsFor, extended_by, outline_of, pile_at, root_label}
use Rattle.vrp_labels.specs.Closing.{AreKept, AreOffered, ArePending, IsExtended, HaveGrown, IsClosing, IsDominated, IsDone, Waits, pushed}
use Rattle.vrp_labels.specs.declared.label.Label.{Label}
use Rattle.vrp_labels.proofs.Endings.{dominates_itself, last_ending, may_extend, outline_stands, root_stands, stands_better, stands_extended}
use Rattle.vrp_labels.proofs.PileSteps.{emptied_cases, emptied_still, none_past, pushed_cases, pushed_here, pushed_still}

none_there : (x : Label) → Contains [] x → ⊥
none_there x (k, lt, is) = omega (arith, lt)

-- ---- piles

pub root_is_label : (g : GraphOf) → IsGraph g → IsLabelOf g root_label
root_is_label g is = record { place = omega (arith, is.some_places); light = omega arith; small = omega arith }

pub length_pushed : (piles : List (List Label)) (at : ℕ) (label : Label) → length (pushed piles at label) ≡ length piles
length_pushed piles at label = length-set piles at (pile_at piles at ++ label ∷ [])

pub grows_not : (piles : List (List Label)) → HaveGrown piles piles
grows_not piles = record { long = refl; still = λ at label has. has }

pub grows_pushed : (old new : List (List Label)) (at : ℕ) (label : Label) → HaveGrown old new → at < length new → HaveGrown old (pushed new at label)
grows_pushed old new at label grows lt = record {
  long = length_pushed new at label ∙ grows.long;
  still = λ other x has. pushed_still new at other label x lt (grows.still other x has);
}

pub pending_pushed : (g : GraphOf) (pending : List (List Label)) (label : Label) → ArePending g pending → IsLabelOf g label → ArePending g (pushed pending label.load label)
pending_pushed g pending label are is = record {
  long = length_pushed pending label.load label ∙ are.long;
  each = λ load x has. elim (pushed_cases pending label.load load label x (omega (arith, is.light, are.long)) has) [
    | inl was ↦ are.each load x was
    | inr here ↦ (subst (IsLabelOf g) here.1 is, ap (λ (l : Label). l.load) (sym here.1) ∙ here.0)
  ];
}

pub kept_pushed : (g : GraphOf) (kept : List (List Label)) (label : Label) → AreKept g kept → IsLabelOf g label → AreKept g (pushed kept label.at label)
kept_pushed g kept label are is = record {
  long = length_pushed kept label.at label ∙ are.long;
  each = λ at x has. elim (pushed_cases kept label.at at label x (omega (arith, is.place, are.long)) has) [
    | inl was ↦ are.each at x was
    | inr here ↦ (subst (IsLabelOf g) here.1 is, ap (λ (l : Label). l.at) (sym here.1) ∙ here.0)
  ];
}

-- ---- the extensions of one label

pub offered_none : (g : GraphOf) (gap : ℤ) (label : Label) (pending : List (List Label)) → AreOffered g gap label 1 pending pending
offered_none g gap label pending = record { grows = grows_not pending; pending = λ are. are; every = λ j lt may. absurd (omega (arith, may.some, lt)) }

pub offered_one : (g : GraphOf) (gap : ℤ) (label : Label) (j : ℕ) (old new : List (List Label)) → AreOffered g gap label j old new → ArePending g new → IsLabelOf g (extended_by g label j) → label.load < (extended_by g label j).load
    → AreOffered g gap label (j + 1) old (pushed new (extended_by g label j).load (extended_by g label j))
offered_one g gap label j old new offered are is heavier =
    let lt : (extended_by g label j).load < length new = omega (arith, is.light, are.long) in
    record {
      grows = grows_pushed old new (extended_by g label j).load (extended_by g label j) offered.grows lt;
      pending = λ were. pending_pushed g new (extended_by g label j) are is;
      every = λ i less may. elim (cases_lt i j) [
        | inl before ↦ elim (offered.every i before may) [
          | inl (load, more, has) ↦ inl (load, more, pushed_still new (extended_by g label j).load load (extended_by g label j) (extended_by g label i) lt has)
          | inr beyond_gap ↦ inr beyond_gap
        ]
        | inr last ↦
            let same : j ≡ i = omega (arith, less, last) in
            inl (subst (λ n. (load : ℕ) × (label.load < load) × Contains (pile_at (pushed new (extended_by g label j).load (extended_by g label j)) load) (extended_by g label n)) same
            ((extended_by g label j).load, heavier, pushed_here new (extended_by g label j).load (extended_by g label j) lt))
      ];
    }

-- the customer may not come, or no cheap route has the extension
pub offered_not : (g : GraphOf) (gap : ℤ) (label : Label) (j : ℕ) (old new : List (List Label)) → AreOffered g gap label j old new → (MayExtend g label j → IsBeyondGap g gap (extended_by g label j)) → AreOffered g gap label (j + 1) old new
offered_not g gap label j old new offered beyond = record {
  grows = offered.grows;
  pending = offered.pending;
  every = λ i less may. elim (cases_lt i j) [
    | inl before ↦ offered.every i before may
    | inr last ↦
        let same : j ≡ i = omega (arith, less, last) in
        inr (subst (λ n. IsBeyondGap g gap (extended_by g label n)) same (beyond (subst (MayExtend g label) (sym same) may)))
  ];
}

-- what tells that no cheap route has the outline tells it of the extension
pub beyond_by_outline : (g : GraphOf) (gap : ℤ) (label : Label) (j : ℕ) → IsBeyondGap g gap (outline_of g label j) → IsBeyondGap g gap (extended_by g label j)
beyond_by_outline g gap label j beyond beginning ending cheap stands = beyond beginning ending cheap (outline_stands g label j ending stands)

-- ---- labels that wait or are dominated

abbrev Served : GraphOf → ℤ → List (List Label) → List (List Label) → ℕ → List Label → Label → Type 0
Served g gap kept pending from hand label = Waits pending from hand label ⊎ IsDone g gap kept label

-- the label in hand is dominated, and so no longer waits
served_dominated : (g : GraphOf) (gap : ℤ) (kept pending : List (List Label)) (from : ℕ) (x : Label) (hand : List Label) → IsDominated g kept x
    → (label : Label) → Served g gap kept pending from (x ∷ hand) label → Served g gap kept pending from hand label
served_dominated g gap kept pending from x hand dominated label (inl (inl (zero, lt, is))) = inr (inl (subst (IsDominated g kept) is dominated))
served_dominated g gap kept pending from x hand dominated label (inl (inl (suc k, lt, is))) = inl (inl (k, omega (arith, lt), is))
served_dominated g gap kept pending from x hand dominated label (inl (inr waits)) = inl (inr waits)
served_dominated g gap kept pending from x hand dominated label (inr by) = inr by

pub one_dominated : (g : GraphOf) (gap : ℤ) (from : ℕ) (x : Label) (hand : List Label) (kept pending : List (List Label)) → IsDominated g kept x → IsClosing g gap from (x ∷ hand) kept pending → IsClosing g gap from hand kept pending
one_dominated g gap from x hand kept pending dominated is = record {
  are_kept = is.are_kept;
  are_pending = is.are_pending;
  in_hand = All-tail (λ label. IsLabelOf g label × (label.load + 1 ≡ from)) x hand is.in_hand;
  roots = λ j may. served_dominated g gap kept pending from x hand dominated (extended_by g root_label j) (is.roots j may);
  extensions = λ at label has j may. served_dominated g gap kept pending from x hand dominated (extended_by g label j) (is.extensions at label has j may);
}

-- what waits or is dominated is so in piles that grew
served_grown : (g : GraphOf) (gap : ℤ) (kept more pending later : List (List Label)) (from : ℕ) (hand : List Label) → HaveGrown kept more → HaveGrown pending later
    → (label : Label) → Served g gap kept pending from hand label → Served g gap more later from hand label
served_grown g gap kept more pending later from hand a b label (inl (inl held)) = inl (inl held)
served_grown g gap kept more pending later from hand a b label (inl (inr (load, le, has))) = inl (inr (load, le, b.still load label has))
served_grown g gap kept more pending later from hand a b label (inr (inl (other, has, by))) = inr (inl (other, a.still label.at other has, by))
served_grown g gap kept more pending later from hand a b label (inr (inr beyond_gap)) = inr (inr beyond_gap)

-- the label in hand is kept, with its extensions
pub one_kept : (g : GraphOf) (gap : ℤ) (from : ℕ) (x : Label) (hand : List Label) (kept pending later : List (List Label)) → AreOffered g gap x g.folded.places pending later → IsClosing g gap from (x ∷ hand) kept pending
    → IsClosing g gap from hand (pushed kept x.at x) later
one_kept g gap from x hand kept pending later offered is =
    let (mine, load) = All-head (λ label. IsLabelOf g label × (label.load + 1 ≡ from)) x hand is.in_hand in
    let lt : x.at < length kept = omega (arith, mine.place, is.are_kept.long) in
    let grows : HaveGrown kept (pushed kept x.at x) = grows_pushed kept kept x.at x (grows_not kept) lt in
    let dominated : IsDominated g (pushed kept x.at x) x = (x, pushed_here kept x.at x lt, dominates_itself g x) in
    let after = λ (label : Label) (served : Served g gap kept pending from (x ∷ hand) label).
    served_dominated g gap (pushed kept x.at x) later from x hand dominated label (served_grown g gap kept (pushed kept x.at x) pending later from (x ∷ hand) grows offered.grows label served) in
    record {
      are_kept = kept_pushed g kept x is.are_kept mine;
      are_pending = offered.pending is.are_pending;
      in_hand = All-tail (λ label. IsLabelOf g label × (label.load + 1 ≡ from)) x hand is.in_hand;
      roots = λ j may. after (extended_by g root_label j) (is.roots j may);
      extensions = λ at label has. elim (pushed_cases kept x.at at x label lt has) [
        | inl was ↦ (λ j may. after (extended_by g label j) (is.extensions at label was j may))
        | inr here ↦ subst (IsExtended g gap (pushed kept x.at x) later from hand) here.1 (λ j may.
            elim (offered.every j may.place may) [
              | inl (heavier, more, waits) ↦ inl (inr (heavier, omega (arith, load, more), waits))
              | inr beyond_gap ↦ inr (inr beyond_gap)
            ])
      ];
    }

-- ---- a load

served_taken : (g : GraphOf) (gap : ℤ) (kept pending : List (List Label)) (from : ℕ) → from < length pending → (label : Label) → Served g gap kept pending from [] label
    → Served g gap kept (slice_set pending from []) (from + 1) (pile_at pending from) label
served_taken g gap kept pending from lt label (inl (inl held)) = absurd (none_there label held)
served_taken g gap kept pending from lt label (inl (inr (load, le, has))) = elim (cases_eq load from) [
  | inl same ↦ inl (inl (subst (λ n. Contains (pile_at pending n) label) same has))
  | inr differs ↦ inl (inr (load, above le differs, emptied_still pending from load label differs has))
]
  where
    above : {a b : ℕ} → a ≤ b → (b ≡ a → ⊥) → a + 1 ≤ b
    above le differs = omega arith
served_taken g gap kept pending from lt label (inr by) = inr by

-- the labels of the next load are taken in hand
pub taken : (g : GraphOf) (gap : ℤ) (from : ℕ) (kept pending : List (List Label)) → from < length pending → IsClosing g gap from [] kept pending → IsClosing g gap (from + 1) (pile_at pending from) kept (slice_set pending from [])
taken g gap from kept pending lt is = record {
  are_kept = is.are_kept;
  are_pending = record {
    long = length-set pending from [] ∙ is.are_pending.long;
    each = λ load label has. is.are_pending.each load label (emptied_cases pending from load label lt has).1;
  };
  in_hand = λ k d within.
      let each = is.are_pending.each from (get_or (pile_at pending from) k d) (Contains-get_or (pile_at pending from) k d within) in
      (each.0, ap (λ n. n + 1) each.1);
  roots = λ j may. served_taken g gap kept pending from lt (extended_by g root_label j) (is.roots j may);
  extensions = λ at label has j may. served_taken g gap kept pending from lt (extended_by g label j) (is.extensions at label has j may);
}

served_sorted : (g : GraphOf) (gap : ℤ) (kept pending : List (List Label)) (from : ℕ) (hand sorted : List Label) → IsPermutation hand sorted → (label : Label) → Served g gap kept pending from hand label → Served g gap kept pending from sorted label
served_sorted g gap kept pending from hand sorted moved label (inl (inl held)) = inl (inl (Contains-permutation hand sorted label moved held))
served_sorted g gap kept pending from hand sorted moved label (inl (inr waits)) = inl (inr waits)
served_sorted g gap kept pending from hand sorted moved label (inr by) = inr by

-- the labels in hand may be taken in another order
pub sorted : (g : GraphOf) (gap : ℤ) (from : ℕ) (hand other : List Label) (kept pending : List (List Label)) → IsPermutation hand other → IsClosing g gap from hand kept pending → IsClosing g gap from other kept pending
sorted g gap from hand other kept pending moved is = record {
  are_kept = is.are_kept;
  are_pending = is.are_pending;
  in_hand = All-permutation (λ label. IsLabelOf g label × (label.load + 1 ≡ from)) hand other moved is.in_hand;
  roots = λ j may. served_sorted g gap kept pending from hand other moved (extended_by g root_label j) (is.roots j may);
  extensions = λ at label has j may. served_sorted g gap kept pending from hand other moved (extended_by g label j) (is.extensions at label has j may);
}

-- ---- the start and the end

pub started : (g : GraphOf) (gap : ℤ) (kept pending later : List (List Label)) → length kept ≡ g.folded.places → length pending ≡ g.capacity + 1 → ((at : ℕ) → pile_at kept at ≡ []) → ((load : ℕ) → pile_at pending load ≡ [])
    → AreOffered g gap root_label g.folded.places pending later → IsClosing g gap 0 [] kept later
started g gap kept pending later places loads no_kept no_pending offered = record {
  are_kept = record { long = places; each = λ at label has. absurd (none_there label (subst (λ (p : List Label). Contains p label) (no_kept at) has)) };
  are_pending = offered.pending (record { long = loads; each = λ load label has. absurd (none_there label (subst (λ (p : List Label). Contains p label) (no_pending load) has)) });
  in_hand = λ k d lt. absurd (omega (arith, lt));
  roots = λ j may. elim (offered.every j may.place may) [
    | inl (load, more, waits) ↦ inl (inr (load, omega arith, waits))
    | inr beyond_gap ↦ inr (inr beyond_gap)
  ];
  extensions = λ at label has. absurd (none_there label (subst (λ (p : List Label). Contains p label) (no_kept at) has));
}

pub pending_empty : (g : GraphOf) (pending : List (List Label)) → length pending ≡ g.capacity + 1 → ((load : ℕ) → pile_at pending load ≡ []) → ArePending g pending
pending_empty g pending loads no_pending = record { long = loads; each = λ load label has. absurd (none_there label (subst (λ (p : List Label). Contains p label) (no_pending load) has)) }

-- where no label waits, each extension is done
all_dominated : (g : GraphOf) (gap : ℤ) (kept pending : List (List Label)) (from : ℕ) → length pending ≤ from → (label : Label) → Served g gap kept pending from [] label → IsDone g gap kept label
all_dominated g gap kept pending from past label (inl (inl held)) = absurd (none_there label held)
all_dominated g gap kept pending from past label (inl (inr (load, le, has))) = absurd (none_past pending load label (omega arith) has)
all_dominated g gap kept pending from past label (inr by) = by

-- a label whose extensions are done, and which stands for an ending
record Stands (g : GraphOf) (gap : ℤ) (kept : List (List Label)) (ending : List ℕ) : Type 0 where
  label : Label
  among : ending ≢ [] → Contains (pile_at kept (first_of ending)) label
  extensions : (j : ℕ) → MayExtend g label j → IsDone g gap kept (extended_by g label j)
  stands : StandsFor g label ending

each_stands : (g : GraphOf) (gap : ℤ) (kept : List (List Label)) → ((j : ℕ) → MayExtend g root_label j → IsDone g gap kept (extended_by g root_label j))
    → ((at : ℕ) (label : Label) → Contains (pile_at kept at) label → (j : ℕ) → MayExtend g label j → IsDone g gap kept (extended_by g label j))
    → (beginning ending : List ℕ) → IsCheap g gap (joined beginning ending) → Stands g gap kept ending
each_stands g gap kept roots extensions beginning [] cheap = record { label = root_label; among = λ some. absurd (some refl); extensions = roots; stands = root_stands g }
each_stands g gap kept roots extensions beginning (j ∷ ending) cheap =
    let behind = each_stands g gap kept roots extensions (j ∷ beginning) ending cheap in
    let is = last_ending g beginning (j ∷ ending) cheap.is_route.is_ending in
    let longer = stands_extended g behind.label j ending behind.stands in
    elim (behind.extensions j (may_extend g behind.label j ending is behind.stands)) [
      | inl (other, has, better) ↦ record {
        label = other;
        among = λ some. has;
        extensions = extensions j other has;
        stands = stands_better g other (extended_by g behind.label j) (j ∷ ending) better longer;
      }
      | inr beyond_gap ↦ absurd (beyond_gap beginning (j ∷ ending) cheap longer)
    ]

-- at the end each ending of a cheap route has a kept label that stands for it
pub closed : (g : GraphOf) (gap : ℤ) (from : ℕ) (kept pending : List (List Label)) → g.capacity + 1 ≤ from → IsClosing g gap from [] kept pending → IsClosed g gap kept
closed g gap from kept pending end is beginning ending cheap some =
    let past : length pending ≤ from = omega (arith, end, is.are_pending.long) in
    let found = each_stands g gap kept (λ j may. all_dominated g gap kept pending from past (extended_by g root_label j) (is.roots j may))
    (λ at label has j may. all_dominated g gap kept pending from past (extended_by g label j) (is.extensions at label has j may)) beginning ending cheap in
    (found.label, found.among some, found.stands)

-- ---- the labels in hand, one by one

pub drop_all : (hand : List Label) (i : ℕ) → length hand ≤ i → drop i hand ≡ []
drop_all [] zero past = refl
drop_all [] (suc i) past = refl
drop_all (x ∷ hand) zero past = absurd (omega arith)
drop_all (x ∷ hand) (suc i) past = drop_all hand i (omega arith)

pub in_hand_at : (g : GraphOf) (gap : ℤ) (from : ℕ) (hand : List Label) (i : ℕ) (kept pending : List (List Label)) → i < length hand → IsClosing g gap from (drop i hand) kept pending
    → IsLabelOf g (get_or hand i root_label) × ((get_or hand i root_label).load + 1 ≡ from)
in_hand_at g gap from hand i kept pending lt is =
    All-head (λ label. IsLabelOf g label × (label.load + 1 ≡ from)) (get_or hand i root_label) (drop (i + 1) hand)
    (subst (λ (h : List Label). All (λ label. IsLabelOf g label × (label.load + 1 ≡ from)) h) (drop_more hand i root_label lt) is.in_hand)

-- a label that was read
pub in_hand_here : (g : GraphOf) (gap : ℤ) (from : ℕ) (hand : List Label) (i : ℕ) (kept pending : List (List Label)) (x : Label) → i < length hand → x ≡ get_or hand i x → IsClosing g gap from (drop i hand) kept pending
    → IsLabelOf g x × (x.load + 1 ≡ from)
in_hand_here g gap from hand i kept pending x lt read is =
    subst (λ (label : Label). IsLabelOf g label × (label.load + 1 ≡ from)) (get_or_default hand i root_label x lt ∙ sym read) (in_hand_at g gap from hand i kept pending lt is)

pub in_kept : (g : GraphOf) (at : ℕ) (kept : List (List Label)) → AreKept g kept → All (λ other. IsLabelOf g other × (other.at ≡ at)) (pile_at kept at)
in_kept g at kept are k d lt = are.each at (get_or (pile_at kept at) k d) (Contains-get_or (pile_at kept at) k d lt)

pub dominated_by : (g : GraphOf) (kept : List (List Label)) (label : Label) (found : List Label) → found ≡ pile_at kept label.at → Any (λ other. Dominates g other label) found → IsDominated g kept label
dominated_by g kept label found is (k, other, lt, read, better) = (other, subst (λ (p : List Label). Contains p other) is (k, lt, read), better)

-- the labels of the next load are taken in hand and sorted
pub in_hand_sorted : (g : GraphOf) (gap : ℤ) (from : ℕ) (kept pending later : List (List Label)) (hand other slice : List Label) → from < length pending → later ≡ slice_set pending from [] → hand ≡ pile_at pending from → IsPermutation hand other → slice ≡ other
    → IsClosing g gap from [] kept pending → IsClosing g gap (from + 1) slice kept later
in_hand_sorted g gap from kept pending later hand other slice lt left is moved same closing =
    subst (λ (h : List Label). IsClosing g gap (from + 1) h kept later) (sym same)
    (sorted g gap (from + 1) hand other kept later moved
    (subst (λ (h : List Label). IsClosing g gap (from + 1) h kept later) (sym is)
    (subst (λ (p : List (List Label)). IsClosing g gap (from + 1) (pile_at pending from) kept p) (sym left) (taken g gap from kept pending lt closing))))
