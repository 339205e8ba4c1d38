-- Routes read from their other ends, and the arcs that cheap routes use.
use Rattle.std.proofs.Common.{◌≡◌, inl, inr, ℕ, ℤ, pos, ◌+ℤ◌, ◌-ℤ◌, ◌≤ℤ◌, ◌<◌, ◌≤◌, ◌+◌, zero, suc, List, [], ◌∷◌, refl, sym, ◌∙◌, ap, subst, arith, bit_and, min}
use Rattle.std.specs.Int.{bit_at}
use Rattle.std.specs.List.{Contains}
use Rattle.std.proofs.lemmas.Int.{ints}
use Rattle.std.proofs.lemmas.List.Elements.{All-head, All-tail}
use Rattle.std.proofs.lemmas.Nat.Bits.{bit_at-lt, bit_at-zero, bit_at_and, same_from_bits}
use Rattle.vrp_duals.specs.Folding.{arc_of, due_at, first_of, folded_cost, home_cost, rows_of, weigh}
use Rattle.vrp_labels.specs.Completion.{Meets, Links, CompletionsOf}
use Rattle.vrp_labels.specs.Fixing.{IsEven, as_forward}
use Rattle.vrp_labels.specs.Graph.{Follows, GraphOf}
use Rattle.vrp_labels.specs.Label.{IsClosed, StandsFor, excess, root_label}
use Rattle.vrp_labels.specs.Route.{IsCheap, beginning_cost, joined, load_in_units}
use Rattle.vrp_labels.specs.declared.label.Label.{Label}
use Rattle.vrp_labels.proofs.Joins.{halves, route_joined, alive_halves, meeting_alive}
use Rattle.vrp_labels.proofs.Turned.{IsKnown, route_turned}
use Rattle.vrp_labels.proofs.RowExcess.{excess_same, meeting_excess}
use Rattle.vrp_labels.proofs.Endings.{not_set, place_of}

-- ---- both ways

-- a beginning costs what its customers cost as an ending, but for the arcs between its last customer and the depot
pub either_way : (g : GraphOf) → IsEven g → 1 ≤ g.folded.places → (beginning : List ℕ) → IsKnown g beginning → beginning_cost g.folded beginning +ℤ arc_of g.folded (first_of beginning) 0 ≡ home_cost g.folded beginning +ℤ arc_of g.folded 0 (first_of beginning)
either_way g even some [] known = refl
either_way g even some (j ∷ beginning) known =
    let rest = All-tail (λ j. (1 ≤ j) × (j < g.folded.places)) j beginning known in
    let place = (All-head (λ j. (1 ≤ j) × (j < g.folded.places)) j beginning known).1 in
    let b = first_of beginning in
    more (beginning_cost g.folded beginning) (home_cost g.folded beginning) (arc_of g.folded b j) (arc_of g.folded j b) (arc_of g.folded b 0) (arc_of g.folded 0 b) (arc_of g.folded j 0) (arc_of g.folded 0 j) (due_at g.folded j (rows_of g.folded beginning)) (either_way g even some beginning rest) (even.round b j (place_of g beginning some rest) place)
  where
    more : (o h a a' b b' c c' : ℤ) (d : ℕ) → o +ℤ b ≡ h +ℤ b' → a +ℤ c +ℤ b' ≡ a' +ℤ c' +ℤ b → o +ℤ a +ℤ pos d +ℤ c ≡ h +ℤ a' +ℤ pos d +ℤ c'
    more o h a a' b b' c c' d e f = omega (arith, ints)

pub met_either : (g : GraphOf) (a b : ℕ) → weigh g.folded.row_prices (bit_and a b) ≡ weigh g.folded.row_prices (bit_and b a)
met_either g a b = ap (weigh g.folded.row_prices) (same_from_bits (bit_and a b) (bit_and b a) (λ i. bit_at_and a b i ∙ (turn (bit_at a i) (bit_at b i) ∙ sym (bit_at_and b a i))))
  where
    turn : (x y : ℕ) → min x y ≡ min y x
    turn x y = omega arith

-- a cheap route is cheap from its other end
pub reversed_cheap : (g : GraphOf) (gap : ℤ) (beginning ending : List ℕ) → IsEven g → 1 ≤ g.folded.places → IsCheap g gap (joined beginning ending) → IsCheap g gap (joined ending beginning)
reversed_cheap g gap beginning ending even some cheap =
    let both = halves g beginning ending cheap.is_route.is_ending in
    let kp = both.is_ending.known in
    let b = first_of beginning in
    let p = first_of ending in
    let bs = place_of g beginning some both.known in
    let ps = place_of g ending some kp in
    record {
      is_route = route_turned g g.followers even.both some beginning ending cheap.is_route;
      cheap = same (beginning_cost g.folded beginning) (beginning_cost g.folded ending) (home_cost g.folded beginning) (home_cost g.folded ending) (arc_of g.folded b p) (arc_of g.folded p b) (arc_of g.folded b 0) (arc_of g.folded 0 b) (arc_of g.folded p 0) (arc_of g.folded 0 p)
          (weigh g.folded.row_prices (bit_and (rows_of g.folded beginning) (rows_of g.folded ending))) (weigh g.folded.row_prices (bit_and (rows_of g.folded ending) (rows_of g.folded beginning))) (folded_cost g.folded (joined beginning ending)) (folded_cost g.folded (joined ending beginning))
          (route_joined g beginning ending) (route_joined g ending beginning) (either_way g even some beginning both.known) (either_way g even some ending kp) (even.round b p bs ps) (met_either g (rows_of g.folded beginning) (rows_of g.folded ending)) cheap.cheap;
    }
  where
    same : (ob op hb hp a a' b b' p p' : ℤ) (w v : ℕ) (r s : ℤ) → r ≡ ob +ℤ (a +ℤ hp +ℤ pos w) → s ≡ op +ℤ (a' +ℤ hb +ℤ pos v) → ob +ℤ b ≡ hb +ℤ b' → op +ℤ p ≡ hp +ℤ p' → a +ℤ p +ℤ b' ≡ a' +ℤ p' +ℤ b → w ≡ v → r ≤ℤ gap → s ≤ℤ gap
    same ob op hb hp a a' b b' p p' w v r s e f h i k l le = omega (arith, ints)

-- ---- labels of beginnings

-- the label is no worse than the beginning in any respect
pub record StandsForBeginning (g : GraphOf) (forward : Label) (beginning : List ℕ) : Type 0 where
  pub at : forward.at ≡ first_of beginning
  pub load : forward.load ≤ load_in_units g beginning
  pub visited : (c : ℕ) → bit_at forward.visited c ≡ 1 → Contains beginning c
  pub cost : (forward.cost +ℤ pos (excess g forward.rows (rows_of g.folded beginning))) ≤ℤ beginning_cost g.folded beginning

pub root_begins : (g : GraphOf) → StandsForBeginning g root_label []
root_begins g = record {
  at = refl;
  load = omega arith;
  visited = λ c set. absurd (omega (arith, bit_at-zero c, set));
  cost = let none = excess_same g 0 in omega (arith, ints, none);
}

pub as_forward_begins : (g : GraphOf) (label : Label) (beginning : List ℕ) → IsEven g → 1 ≤ g.folded.places → IsKnown g beginning → StandsFor g label beginning → StandsForBeginning g (as_forward g label) beginning
as_forward_begins g label beginning even some known stands = record {
  at = stands.at;
  load = stands.load;
  visited = stands.visited;
  cost = more label.cost (home_cost g.folded beginning) (beginning_cost g.folded beginning) (arc_of g.folded 0 label.at) (arc_of g.folded label.at 0) (arc_of g.folded 0 (first_of beginning)) (arc_of g.folded (first_of beginning) 0) (excess g label.rows (rows_of g.folded beginning)) (ap (arc_of g.folded 0) stands.at) (ap (λ n. arc_of g.folded n 0) stands.at) (either_way g even some beginning known) stands.cost;
}
  where
    more : (c h o a b a' b' : ℤ) (e : ℕ) → a ≡ a' → b ≡ b' → o +ℤ b' ≡ h +ℤ a' → (c +ℤ pos e) ≤ℤ h → (c +ℤ a -ℤ b +ℤ pos e) ≤ℤ o
    more c h o a b a' b' e p q r s = omega (arith, ints)

-- it meets a label that stands for the rest of a cheap route
begins_meets : (g : GraphOf) (gap : ℤ) (forward label : Label) (beginning ending : List ℕ) → IsCheap g gap (joined beginning ending) → StandsForBeginning g forward beginning → StandsFor g label ending → Meets g gap forward label
begins_meets g gap forward label beginning ending cheap begins stands =
    let both = halves g beginning ending cheap.is_route.is_ending in
    record {
      fits = record {
        apart = same_from_bits (bit_and label.visited forward.visited) 0 (λ c. none (bit_at label.visited c) (bit_at forward.visited c) (bit_at_and label.visited forward.visited c) (bit_at-zero c) (bit_at-lt label.visited c)
            (λ set. not_set forward.visited c (λ other. both.apart c (stands.visited c set) (begins.visited c other))));
        light = omega (arith, both.load, begins.load, stands.load);
      };
      cheap = within forward.cost label.cost (beginning_cost g.folded beginning) (home_cost g.folded ending) (arc_of g.folded forward.at label.at) (arc_of g.folded (first_of beginning) (first_of ending)) (folded_cost g.folded (joined beginning ending))
          (weigh g.folded.row_prices (bit_and forward.rows label.rows)) (weigh g.folded.row_prices (bit_and forward.rows (rows_of g.folded ending))) (weigh g.folded.row_prices (bit_and (rows_of g.folded ending) forward.rows)) (weigh g.folded.row_prices (bit_and (rows_of g.folded ending) (rows_of g.folded beginning))) (weigh g.folded.row_prices (bit_and (rows_of g.folded beginning) (rows_of g.folded ending)))
          (excess g forward.rows (rows_of g.folded beginning)) (excess g label.rows (rows_of g.folded ending))
          (ap (arc_of g.folded forward.at) stands.at ∙ ap (λ n. arc_of g.folded n (first_of ending)) begins.at) (route_joined g beginning ending) begins.cost stands.cost
          (meeting_excess g label.rows (rows_of g.folded ending) forward.rows) (met_either g forward.rows (rows_of g.folded ending)) (meeting_excess g forward.rows (rows_of g.folded beginning) (rows_of g.folded ending)) (met_either g (rows_of g.folded ending) (rows_of g.folded beginning)) cheap.cheap;
    }
  where
    none : (x y : ℕ) {b z : ℕ} → b ≡ min x y → z ≡ 0 → x < 2 → (x ≡ 1 → y ≡ 0) → b ≡ z
    none zero y e f lt apart = omega arith
    none (suc zero) y e f lt apart = let low = apart refl in omega (arith, low)
    none (suc (suc x)) y e f lt apart = absurd (omega arith)

    within : (f c o h a b r : ℤ) (w v v' u u' e d : ℕ) → a ≡ b → r ≡ o +ℤ (b +ℤ h +ℤ pos u') → (f +ℤ pos e) ≤ℤ o → (c +ℤ pos d) ≤ℤ h → w ≤ d + v → v ≡ v' → v' ≤ e + u → u ≡ u' → r ≤ℤ gap → (f +ℤ (a +ℤ c +ℤ pos w)) ≤ℤ gap
    within f c o h a b r w v v' u u' e d i j k l m n s t le = omega (arith, ints)

-- so it links to the next place
pub begins_links : (s : CompletionsOf) (forward : Label) (beginning ending : List ℕ) → IsClosed s.graph s.gap s.kept → IsCheap s.graph s.gap (joined beginning ending) → StandsForBeginning s.graph forward beginning → Links s forward (first_of ending)
begins_links s forward beginning [] closed cheap begins =
    let g = s.graph in
    let alive = meeting_alive g beginning 0 (alive_halves g beginning [] cheap.is_route).0 in (
      subst (λ n. Follows g n 0) (sym begins.at) alive,
      inl (refl, within forward.cost (beginning_cost g.folded beginning) (arc_of g.folded forward.at 0) (arc_of g.folded (first_of beginning) 0) (folded_cost g.folded (joined beginning [])) (excess g forward.rows (rows_of g.folded beginning)) (weigh g.folded.row_prices (bit_and (rows_of g.folded beginning) 0)) (ap (λ n. arc_of g.folded n 0) begins.at) (route_joined g beginning []) begins.cost cheap.cheap),
    )
  where
    within : (f o a b r : ℤ) (e w : ℕ) → a ≡ b → r ≡ o +ℤ (b +ℤ pos 0 +ℤ pos w) → (f +ℤ pos e) ≤ℤ o → r ≤ℤ s.gap → (f +ℤ a) ≤ℤ s.gap
    within f o a b r e w p q t u = omega (arith, ints)
begins_links s forward beginning (j ∷ ending) closed cheap begins =
    let g = s.graph in
    let alive = meeting_alive g beginning j (alive_halves g beginning (j ∷ ending) cheap.is_route).0 in
    let (label, has, stands) = closed beginning (j ∷ ending) cheap (λ same. let no : ⊥ = cc in no) in
    let known = All-head (λ j. (1 ≤ j) × (j < g.folded.places)) j ending (halves g beginning (j ∷ ending) cheap.is_route.is_ending).is_ending.known in
    (subst (λ n. Follows g n j) (sym begins.at) alive, inr (known.0, (label, has, begins_meets g s.gap forward label beginning (j ∷ ending) cheap begins stands)))
