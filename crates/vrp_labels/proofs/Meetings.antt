-- Where a beginning meets no label.
use Rattle.std.proofs.Common.{◌≡◌, inl, inr, ℕ, ℤ, pos, ◌+ℤ◌, ◌≤ℤ◌, ◌<◌, ◌≤◌, ◌+◌, List, length, get_or, sym, ◌∙◌, ap, subst, arith, bit_and}
use Rattle.std.specs.List.{All, Contains}
use Rattle.std.proofs.lemmas.Bool.{cases_eq, cases_lt}
use Rattle.std.proofs.lemmas.Int.{ints}
use Rattle.std.proofs.lemmas.List.{get_or_default}
use Rattle.vrp_duals.specs.Folding.{arc_of, rows_of, weigh}
use Rattle.vrp_labels.specs.Completion.{IsForward, Meets}
use Rattle.vrp_labels.specs.Graph.{GraphOf}
use Rattle.vrp_labels.specs.Label.{IsLabelOf, excess, root_label}
use Rattle.vrp_labels.specs.Route.{beginning_cost}
use Rattle.vrp_labels.specs.Sorting.{IsRising}
use Rattle.vrp_labels.specs.declared.label.Label.{Label}
use Rattle.vrp_labels.proofs.RowExcess.{excess_same}
use Rattle.vrp_labels.proofs.EitherEnd.{StandsForBeginning}

-- from a label on whose cost is too high
pub none_after : (g : GraphOf) (gap : ℤ) (forward : Label) (pile : List Label) (i place : ℕ) → All (λ label. IsLabelOf g label × (label.at ≡ place)) pile → IsRising pile → i < length pile
    → ((forward.cost +ℤ arc_of g.folded forward.at place +ℤ (get_or pile i root_label).cost) ≤ℤ gap → ⊥)
    → ((k : ℕ) → k < i → Meets g gap forward (get_or pile k root_label) → ⊥) → (label : Label) → Contains pile label → Meets g gap forward label → ⊥
none_after g gap forward pile i place labels rising lt high before label (k, within, is) meets =
    let here : get_or pile k root_label ≡ label = get_or_default pile k root_label label within ∙ is in
    elim (cases_lt k i) [
      | inl less ↦ before k less (subst (Meets g gap forward) (sym here) meets)
      | inr past ↦
          let place_is = (labels k label within).1 in
          high (lower forward.cost (arc_of g.folded forward.at place) (arc_of g.folded forward.at label.at) (get_or pile i root_label).cost label.cost (weigh g.folded.row_prices (bit_and forward.rows label.rows))
          (ap (arc_of g.folded forward.at) (sym (subst (λ (l : Label). l.at ≡ place) is place_is))) (subst (λ (l : Label). (get_or pile i root_label).cost ≤ℤ l.cost) here (rises past)) meets.cheap)
    ]
  where
    lower : (f a a' c c' : ℤ) (w : ℕ) → a ≡ a' → c ≤ℤ c' → (f +ℤ (a' +ℤ c' +ℤ pos w)) ≤ℤ gap → (f +ℤ a +ℤ c) ≤ℤ gap
    lower f a a' c c' w e p q = omega (arith, ints)

    same_cost : (c : ℤ) → c ≤ℤ c
    same_cost c = omega (arith, ints)

    rises : i ≤ k → (get_or pile i root_label).cost ≤ℤ (get_or pile k root_label).cost
    rises past = elim (cases_eq i k) [
      | inl same ↦ subst (λ n. (get_or pile i root_label).cost ≤ℤ (get_or pile n root_label).cost) same (same_cost (get_or pile i root_label).cost)
      | inr differs ↦ rising i k root_label (let less : i < k = omega (arith, past, differs) in less) within
    ]

-- where all labels were looked at
pub none_at_end : (g : GraphOf) (gap : ℤ) (forward : Label) (pile : List Label) (i : ℕ) → length pile ≤ i → ((k : ℕ) → k < i → Meets g gap forward (get_or pile k root_label) → ⊥)
    → (label : Label) → Contains pile label → Meets g gap forward label → ⊥
none_at_end g gap forward pile i past before label (k, within, is) meets =
    before k (omega (arith, past, within)) (subst (Meets g gap forward) (sym (get_or_default pile k root_label label within ∙ is)) meets)

pub none_more : (g : GraphOf) (gap : ℤ) (forward : Label) (pile : List Label) (i : ℕ) → ((k : ℕ) → k < i → Meets g gap forward (get_or pile k root_label) → ⊥) → (Meets g gap forward (get_or pile i root_label) → ⊥)
    → (k : ℕ) → k < i + 1 → Meets g gap forward (get_or pile k root_label) → ⊥
none_more g gap forward pile i before here k less meets = elim (cases_lt k i) [
  | inl first ↦ before k first meets
  | inr last ↦ here (subst (λ n. Meets g gap forward (get_or pile n root_label)) (let same : k ≡ i = omega (arith, less, last) in same) meets)
]

-- the label of a beginning is no worse than it
pub forward_begins : (g : GraphOf) (forward : Label) (beginning : List ℕ) → IsForward g beginning forward → StandsForBeginning g forward beginning
forward_begins g forward beginning is = record {
  at = is.at;
  load = omega (arith, is.load);
  visited = is.visited;
  cost = same forward.cost (beginning_cost g.folded beginning) (excess g forward.rows (rows_of g.folded beginning)) is.cost (ap (λ n. excess g n (rows_of g.folded beginning)) is.rows ∙ excess_same g (rows_of g.folded beginning));
}
  where
    same : (c o : ℤ) (e : ℕ) → c ≡ o → e ≡ 0 → (c +ℤ pos e) ≤ℤ o
    same c o e p q = omega (arith, ints)
