-- Endings, the labels that stand for them, longer endings and other labels.
use Rattle.std.proofs.Common.{◌≡◌, ◌⊎◌, ℕ, suc, ◌+◌, ◌^◌, ◌<◌, ◌≤◌, ◌≤ℤ◌, ℤ, pos, ◌+ℤ◌, List, [], ◌∷◌, inl, inr, refl, sym, ◌∙◌, ap, subst, arith, bit_and, min, max}
use Rattle.std.specs.Int.{bit_at}
use Rattle.std.specs.Int.RustNames.{bit_or}
use Rattle.std.specs.List.{All, Contains}
use Rattle.std.proofs.lemmas.Bool.{cases_eq}
use Rattle.std.proofs.lemmas.Int.{ints}
use Rattle.std.proofs.lemmas.List.Elements.{All-head, All-tail}
use Rattle.std.proofs.lemmas.List.Sums.{sum_by-cons}
use Rattle.std.proofs.lemmas.Nat.Bits.{bit_at-lt, bit_at-pow_other, bit_at-zero, bit_at_and, bit_at_or}
use Rattle.vrp_duals.specs.Folding.{arc_of, due_at, first_of, home_cost, rows_at, rows_of}
use Rattle.vrp_labels.specs.Graph.{Follows, GraphOf, demand_at, near_at}
use Rattle.vrp_labels.specs.Route.{IsEnding, joined, load_in_units}
use Rattle.vrp_labels.specs.Label.{Dominates, MayExtend, StandsFor, excess, extended_by, outline_of, root_label}
use Rattle.vrp_labels.specs.declared.label.Label.{Label}
use Rattle.vrp_labels.proofs.RowExcess.{excess_extended, excess_none, excess_same, excess_trans}

-- ---- endings

pub behind_head : (x y : ℕ) (xs : List ℕ) → Contains xs y → Contains (x ∷ xs) y
behind_head x y xs (k, lt, is) = (suc k, omega (arith, lt), is)

pub load_more : (g : GraphOf) (j : ℕ) (ending : List ℕ) → load_in_units g (j ∷ ending) ≡ demand_at g j + load_in_units g ending
load_more g j ending = sum_by-cons (demand_at g) j ending

pub rest_ending : (g : GraphOf) (j : ℕ) (ending : List ℕ) → IsEnding g (j ∷ ending) → IsEnding g ending
rest_ending g j ending is = record {
  known = All-tail (λ j. (1 ≤ j) × (j < g.folded.places)) j ending is.known;
  once = λ i k d lt within. is.once (suc i) (suc k) d (omega arith) (omega arith);
  light = omega (arith, is.light, load_more g j ending);
  alive = is.alive.1;
}

-- the rest of an ending is one too
pub last_ending : (g : GraphOf) (beginning ending : List ℕ) → IsEnding g (joined beginning ending) → IsEnding g ending
last_ending g [] ending is = is
last_ending g (j ∷ beginning) ending is = rest_ending g j ending (last_ending g beginning (j ∷ ending) is)

pub head_known : (g : GraphOf) (j : ℕ) (ending : List ℕ) → IsEnding g (j ∷ ending) → (1 ≤ j) × (j < g.folded.places)
head_known g j ending is = All-head (λ j. (1 ≤ j) × (j < g.folded.places)) j ending is.known

pub head_fresh : (g : GraphOf) (j : ℕ) (ending : List ℕ) → IsEnding g (j ∷ ending) → Contains ending j → ⊥
head_fresh g j ending is (k, lt, same) = is.once 0 (suc k) j (omega arith) (omega (arith, lt)) (sym same)

pub place_of : (g : GraphOf) (ending : List ℕ) → 1 ≤ g.folded.places → All (λ j. (1 ≤ j) × (j < g.folded.places)) ending → first_of ending < g.folded.places
place_of g [] some known = omega (arith, some)
place_of g (j ∷ ending) some known = (All-head (λ j. (1 ≤ j) × (j < g.folded.places)) j ending known).1

-- ---- what a label remembers

pub remembered : (v n j c : ℕ) → bit_at (bit_or (bit_and v n) (2 ^ j)) c ≡ 1 → (j ≡ c) ⊎ (bit_at v c ≡ 1)
remembered v n j c set = elim (cases_eq j c) [
  | inl same ↦ inl same
  | inr other ↦ inr (kept _ _ _ _ (bit_at n c) (bit_at-pow_other j c (λ same. other (sym same))) (bit_at_and v n c) (bit_at_or (bit_and v n) (2 ^ j) c) (bit_at-lt v c) set)
]
  where
    kept : (p a o v n : ℕ) → p ≡ 0 → a ≡ min v n → o ≡ max a p → v < 2 → o ≡ 1 → v ≡ 1
    kept p a o v n e f h lt is = omega arith

pub not_set : (v c : ℕ) → (bit_at v c ≡ 1 → ⊥) → bit_at v c ≡ 0
not_set v c never = elim (cases_eq (bit_at v c) 1) [ inl set ↦ absurd (never set) | inr other ↦ low (bit_at-lt v c) other ]
  where
    low : {n : ℕ} → n < 2 → (n ≡ 1 → ⊥) → n ≡ 0
    low lt other = omega arith

-- ---- labels and the endings that they stand for

pub root_stands : (g : GraphOf) → StandsFor g root_label []
root_stands g = record {
  at = refl;
  load = omega arith;
  visited = λ c set. absurd (omega (arith, bit_at-zero c, set));
  cost = let none = excess_same g 0 in omega (arith, ints, none);
}

-- a label that stands for an ending may be extended by a customer in front of the ending
pub may_extend : (g : GraphOf) (label : Label) (j : ℕ) (ending : List ℕ) → IsEnding g (j ∷ ending) → StandsFor g label ending → MayExtend g label j
may_extend g label j ending is stands = record {
  some = (head_known g j ending is).0;
  place = (head_known g j ending is).1;
  fresh = not_set label.visited j (λ set. head_fresh g j ending is (stands.visited j set));
  light = omega (arith, is.light, load_more g j ending, stands.load);
  alive = subst (Follows g j) (sym stands.at) is.alive.0;
}

-- and then stands for the longer ending
pub stands_extended : (g : GraphOf) (label : Label) (j : ℕ) (ending : List ℕ) → StandsFor g label ending → StandsFor g (extended_by g label j) (j ∷ ending)
stands_extended g label j ending stands = record {
  at = refl;
  load = omega (arith, load_more g j ending, stands.load);
  visited = λ c set. elim (remembered label.visited (near_at g j) j c set) [
    | inl same ↦ (0, omega arith, same)
    | inr was ↦ behind_head j c ending (stands.visited c was)
  ];
  cost = dearer label.cost (home_cost g.folded ending) (arc_of g.folded j label.at) (arc_of g.folded j (first_of ending)) (excess g label.rows (rows_of g.folded ending)) (due_at g.folded j label.rows) (due_at g.folded j (rows_of g.folded ending))
      (excess g (rows_at g.folded j label.rows) (rows_at g.folded j (rows_of g.folded ending))) (ap (arc_of g.folded j) stands.at) (excess_extended g j label.rows (rows_of g.folded ending)) stands.cost;
}
  where
    dearer : (c h a b : ℤ) (e p q f : ℕ) → a ≡ b → p + f ≤ e + q → (c +ℤ pos e) ≤ℤ h → (c +ℤ a +ℤ pos p +ℤ pos f) ≤ℤ (h +ℤ b +ℤ pos q)
    dearer c h a b e p q f same le was = omega (arith, ints)

-- whatever a longer label stands for, its outline does
pub outline_stands : (g : GraphOf) (label : Label) (j : ℕ) (ending : List ℕ) → StandsFor g (extended_by g label j) ending → StandsFor g (outline_of g label j) ending
outline_stands g label j ending stands = record {
  at = stands.at;
  load = stands.load;
  visited = λ c set. absurd (omega (arith, bit_at-zero c, set));
  cost = cheaper (label.cost +ℤ arc_of g.folded j label.at) (home_cost g.folded ending) (due_at g.folded j label.rows) (excess g (rows_at g.folded j label.rows) (rows_of g.folded ending)) (excess g 0 (rows_of g.folded ending)) (excess_none g (rows_of g.folded ending)) stands.cost;
}
  where
    cheaper : (a h : ℤ) (d e f : ℕ) → f ≡ 0 → (a +ℤ pos d +ℤ pos e) ≤ℤ h → (a +ℤ pos f) ≤ℤ h
    cheaper a h d e f none le = omega (arith, ints)

-- a label that dominates another stands for all that the other stands for
pub stands_better : (g : GraphOf) (label other : Label) (ending : List ℕ) → Dominates g label other → StandsFor g other ending → StandsFor g label ending
stands_better g label other ending better stands = record {
  at = better.at ∙ stands.at;
  load = omega (arith, better.load, stands.load);
  visited = λ c set. stands.visited c (higher (better.visited c) (bit_at-lt other.visited c) set);
  cost = cheaper label.cost other.cost (home_cost g.folded ending) (excess g label.rows (rows_of g.folded ending)) (excess g label.rows other.rows) (excess g other.rows (rows_of g.folded ending)) (excess_trans g label.rows other.rows (rows_of g.folded ending)) better.cost stands.cost;
}
  where
    higher : {x y : ℕ} → x ≤ y → y < 2 → x ≡ 1 → y ≡ 1
    higher le lt is = omega arith

    cheaper : (a b h : ℤ) (e f i : ℕ) → e ≤ f + i → (a +ℤ pos f) ≤ℤ b → (b +ℤ pos i) ≤ℤ h → (a +ℤ pos e) ≤ℤ h
    cheaper a b h e f i le p q = omega (arith, ints)

pub dominates_itself : (g : GraphOf) (label : Label) → Dominates g label label
dominates_itself g label = record {
  at = refl;
  load = omega arith;
  visited = λ c. omega arith;
  cost = same label.cost (excess g label.rows label.rows) (excess_same g label.rows);
}
  where
    same : (a : ℤ) (e : ℕ) → e ≡ 0 → (a +ℤ pos e) ≤ℤ a
    same a e none = omega (arith, ints)
