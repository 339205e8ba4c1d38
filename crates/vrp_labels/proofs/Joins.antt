-- A beginning joined to an ending.
use Rattle.std.proofs.Common.{◌≡◌, ◌≢◌, ◌⊎◌, inl, inr, ℕ, ℤ, pos, ◌+ℤ◌, ◌≤ℤ◌, zero, suc, ◌<◌, ◌≤◌, ◌+◌, List, [], ◌∷◌, length, get_or, refl, sym, ◌∙◌, ap, subst, arith, bit_and, min, max, ◌^◌, true, false}
use Rattle.std.specs.Int.{bit_at}
use lib.Signed.{le_z}
use Rattle.std.specs.List.{All, AllPairs, Contains}
use Rattle.std.proofs.lemmas.Bool.{cases_Bool, cases_eq, cases_lt}
use Rattle.std.proofs.lemmas.List.{get_or_default}
use Rattle.std.proofs.lemmas.Int.{ints}
use Rattle.std.proofs.lemmas.List.Elements.{All-cons, All-contains, All-nil, Contains-get_or}
use Rattle.std.proofs.lemmas.List.Kept.{AllPairs-cons}
use Rattle.std.proofs.lemmas.Nat.Bits.{bit_at-lt, bit_at-pow_other, bit_at-zero, bit_at_and, bit_at_or, same_from_bits}
use Rattle.vrp_duals.specs.Folding.{arc_of, due_at, first_of, folded_cost, home_cost, rows_at, rows_of, weigh}
use Rattle.vrp_labels.specs.Graph.{Follows, GraphOf}
use Rattle.vrp_labels.specs.Route.{IsAliveBeginning, IsAliveEnding, IsAliveRoute, IsEnding, beginning_cost, joined, load_in_units}
use Rattle.vrp_labels.specs.Label.{IsClosed, IsLabelOf, StandsFor, excess, pile_at, root_label}
use Rattle.vrp_labels.specs.Sorting.{IsRising}
use Rattle.vrp_labels.specs.Completion.{CanJoin, IsCompletion, IsForward, BoundsCompletions, IsLeastJoin, advanced_by, completion_cost, join_cost}
use Rattle.vrp_labels.specs.declared.label.Label.{Label}
use Rattle.vrp_labels.proofs.RowExcess.{meeting_excess, meeting_moved, weigh_none}
use Rattle.vrp_labels.proofs.Endings.{behind_head, head_fresh, head_known, load_more, not_set, rest_ending}

-- what a whole route costs, from the costs of its halves and of where they meet
pub route_joined : (g : GraphOf) (beginning ending : List ℕ) → folded_cost g.folded (joined beginning ending)
    ≡ beginning_cost g.folded beginning +ℤ (arc_of g.folded (first_of beginning) (first_of ending) +ℤ home_cost g.folded ending +ℤ pos (weigh g.folded.row_prices (bit_and (rows_of g.folded beginning) (rows_of g.folded ending))))
route_joined g [] ending = nothing (arc_of g.folded 0 (first_of ending)) (home_cost g.folded ending) (weigh g.folded.row_prices (bit_and 0 (rows_of g.folded ending))) (ap (weigh g.folded.row_prices) (none_met (rows_of g.folded ending)) ∙ weigh_none g.folded.row_prices)
  where
    nothing : (a h : ℤ) (w : ℕ) → w ≡ 0 → a +ℤ h ≡ pos 0 +ℤ (a +ℤ h +ℤ pos w)
    nothing a h w none = omega (arith, ints)

    none_met : (r : ℕ) → bit_and 0 r ≡ 0
    none_met r = same_from_bits (bit_and 0 r) 0 (λ i. low (bit_at r i) (bit_at_and 0 r i) (bit_at-zero i))
      where
        low : {x y : ℕ} (z : ℕ) → x ≡ min y z → y ≡ 0 → x ≡ y
        low z e f = omega arith
route_joined g (j ∷ beginning) ending =
    moved (folded_cost g.folded (joined beginning (j ∷ ending))) (beginning_cost g.folded beginning) (arc_of g.folded (first_of beginning) j) (home_cost g.folded ending) (arc_of g.folded j (first_of ending))
    (due_at g.folded j (rows_of g.folded ending)) (weigh g.folded.row_prices (bit_and (rows_of g.folded beginning) (rows_at g.folded j (rows_of g.folded ending)))) (due_at g.folded j (rows_of g.folded beginning)) (weigh g.folded.row_prices (bit_and (rows_at g.folded j (rows_of g.folded beginning)) (rows_of g.folded ending)))
    (route_joined g beginning (j ∷ ending)) (meeting_moved g j (rows_of g.folded beginning) (rows_of g.folded ending))
  where
    moved : (r o a h b : ℤ) (p w q v : ℕ) → r ≡ o +ℤ (a +ℤ (h +ℤ b +ℤ pos p) +ℤ pos w) → p + w ≡ q + v → r ≡ o +ℤ a +ℤ pos q +ℤ (b +ℤ h +ℤ pos v)
    moved r o a h b p w q v e f = omega (arith, ints)

-- a route's halves have known customers, share none, and have its load
pub record Halves (g : GraphOf) (beginning ending : List ℕ) : Type 0 where
  pub is_ending : IsEnding g ending
  pub known : All (λ j. (1 ≤ j) × (j < g.folded.places)) beginning
  pub once : AllPairs (λ a b. a ≢ b) beginning
  pub load : load_in_units g beginning + load_in_units g ending ≤ g.capacity
  pub apart : (c : ℕ) → Contains ending c → Contains beginning c → ⊥

pub halves : (g : GraphOf) (beginning ending : List ℕ) → IsEnding g (joined beginning ending) → Halves g beginning ending
halves g [] ending is = record { is_ending = is; known = All-nil (λ j. (1 ≤ j) × (j < g.folded.places)); once = λ i k d less within. absurd (omega (arith, within)); load = omega (arith, is.light); apart = λ c has (k, lt, same). omega (arith, lt) }
halves g (j ∷ beginning) ending is =
    let more = halves g beginning (j ∷ ending) is in
    record {
      is_ending = rest_ending g j ending more.is_ending;
      known = All-cons (λ j. (1 ≤ j) × (j < g.folded.places)) j beginning (head_known g j ending more.is_ending) more.known;
      once = AllPairs-cons (λ a b. a ≢ b) j beginning (λ k d lt same. more.apart j (0, omega arith, refl) (subst (Contains beginning) (sym same) (Contains-get_or beginning k d lt))) more.once;
      load = omega (arith, more.load, load_more g j ending, load_more g j beginning);
      apart = λ c has. apart c has (λ here. more.apart c (behind_head j c ending has) here) (λ same. head_fresh g j ending more.is_ending (subst (Contains ending) (sym same) has));
    }
  where
    apart : (c : ℕ) → Contains ending c → (Contains beginning c → ⊥) → (j ≡ c → ⊥) → Contains (j ∷ beginning) c → ⊥
    apart c has other differs (zero, lt, same) = differs same
    apart c has other differs (suc k, lt, same) = other (k, omega (arith, lt), same)

-- and the arcs of its halves are alive
pub alive_halves : (g : GraphOf) (beginning ending : List ℕ) → IsAliveRoute g (joined beginning ending) → IsAliveBeginning g beginning (first_of ending) × IsAliveEnding g ending
alive_halves g [] ending route = (route.start, route.is_ending.alive)
alive_halves g (j ∷ beginning) ending route = let (ahead, homeward) = alive_halves g beginning (j ∷ ending) route in ((ahead, homeward.0), homeward.1)

pub meeting_alive : (g : GraphOf) (beginning : List ℕ) (to : ℕ) → IsAliveBeginning g beginning to → Follows g (first_of beginning) to
meeting_alive g [] to ahead = ahead
meeting_alive g (j ∷ beginning) to ahead = ahead.1

pub completes : (g : GraphOf) (beginning ending : List ℕ) (forward : Label) → IsForward g beginning forward → IsAliveRoute g (joined beginning ending) → IsCompletion g forward ending
completes g beginning ending forward is route =
    let both = halves g beginning ending route.is_ending in
    record {
      is_ending = both.is_ending;
      light = omega (arith, both.load, is.load);
      apart = λ c has. not_set forward.visited c (λ set. both.apart c has (is.visited c set));
      alive = subst (λ n. Follows g n (first_of ending)) (sym is.at) (meeting_alive g beginning (first_of ending) (alive_halves g beginning ending route).0);
    }

-- so a route costs what its beginning costs and what its completion adds
pub route_completed : (g : GraphOf) (beginning ending : List ℕ) (forward : Label) → IsForward g beginning forward → folded_cost g.folded (joined beginning ending) ≡ forward.cost +ℤ completion_cost g forward ending
route_completed g beginning ending forward is =
    route_joined g beginning ending ∙ same (beginning_cost g.folded beginning) forward.cost (arc_of g.folded (first_of beginning) (first_of ending)) (arc_of g.folded forward.at (first_of ending)) (home_cost g.folded ending) (weigh g.folded.row_prices (bit_and (rows_of g.folded beginning) (rows_of g.folded ending))) (weigh g.folded.row_prices (bit_and forward.rows (rows_of g.folded ending)))
    is.cost (ap (λ n. arc_of g.folded n (first_of ending)) is.at) (ap (λ n. weigh g.folded.row_prices (bit_and n (rows_of g.folded ending))) is.rows)
  where
    same : (o c a b h : ℤ) (w v : ℕ) → c ≡ o → b ≡ a → v ≡ w → o +ℤ (a +ℤ h +ℤ pos w) ≡ c +ℤ (b +ℤ h +ℤ pos v)
    same o c a b h w v e f i = omega (arith, ints)

-- ---- labels

-- a label that stands for a completion can join
pub stands_fits : (g : GraphOf) (forward label : Label) (ending : List ℕ) → IsCompletion g forward ending → StandsFor g label ending → CanJoin g forward label
stands_fits g forward label ending is stands = record {
  apart = same_from_bits (bit_and label.visited forward.visited) 0 (λ c. none (bit_at label.visited c) (bit_at forward.visited c) (bit_at_and label.visited forward.visited c) (bit_at-zero c) (bit_at-lt label.visited c) (λ set. is.apart c (stands.visited c set)));
  light = omega (arith, is.light, stands.load);
}
  where
    none : (x y : ℕ) {b z : ℕ} → b ≡ min x y → z ≡ 0 → x < 2 → (x ≡ 1 → y ≡ 0) → b ≡ z
    none zero y e f lt apart = omega arith
    none (suc zero) y e f lt apart = let low = apart refl in omega (arith, low)
    none (suc (suc x)) y e f lt apart = absurd (omega arith)

-- and adds no more
pub stands_cheaper : (g : GraphOf) (forward label : Label) (ending : List ℕ) → StandsFor g label ending → join_cost g forward label ≤ℤ completion_cost g forward ending
stands_cheaper g forward label ending stands =
    cheaper (arc_of g.folded forward.at label.at) (arc_of g.folded forward.at (first_of ending)) label.cost (home_cost g.folded ending) (weigh g.folded.row_prices (bit_and forward.rows label.rows)) (weigh g.folded.row_prices (bit_and forward.rows (rows_of g.folded ending))) (excess g label.rows (rows_of g.folded ending))
    (ap (arc_of g.folded forward.at) stands.at) (meeting_excess g label.rows (rows_of g.folded ending) forward.rows) stands.cost
  where
    cheaper : (a b c h : ℤ) (w v e : ℕ) → a ≡ b → w ≤ e + v → (c +ℤ pos e) ≤ℤ h → (a +ℤ c +ℤ pos w) ≤ℤ (b +ℤ h +ℤ pos v)
    cheaper a b c h w v e same le was = omega (arith, ints)

-- the least that the closed labels add is the least that endings add
pub least_of_all : (g : GraphOf) (gap : ℤ) (kept : List (List Label)) (forward : Label) (least : ℤ) → IsClosed g gap kept → (Follows g forward.at 0 → least ≤ℤ arc_of g.folded forward.at 0)
    → ((at : ℕ) → 1 ≤ at → at < g.folded.places → Follows g forward.at at → IsLeastJoin g forward (pile_at kept at) least) → BoundsCompletions g gap forward least
least_of_all g gap kept forward least closed none each beginning [] begins cheap =
    let is = completes g beginning [] forward begins cheap.is_route in
    more (arc_of g.folded forward.at 0) (weigh g.folded.row_prices (bit_and forward.rows 0)) (none is.alive)
  where
    more : (a : ℤ) (w : ℕ) → least ≤ℤ a → least ≤ℤ (a +ℤ pos 0 +ℤ pos w)
    more a w le = omega (arith, ints)
least_of_all g gap kept forward least closed none each beginning (j ∷ ending) begins cheap =
    let is = completes g beginning (j ∷ ending) forward begins cheap.is_route in
    let place = head_known g j ending is.is_ending in
    let (label, has, stands) = closed beginning (j ∷ ending) cheap (λ same. let no : ⊥ = cc in no) in
    let below : least ≤ℤ join_cost g forward label = All-contains (λ l. CanJoin g forward l → least ≤ℤ join_cost g forward l) (pile_at kept j) label (each j place.0 place.1 is.alive) has (stands_fits g forward label (j ∷ ending) is stands) in
    trans least (join_cost g forward label) (completion_cost g forward (j ∷ ending)) below (stands_cheaper g forward label (j ∷ ending) stands)
  where
    trans : (a b c : ℤ) → a ≤ℤ b → b ≤ℤ c → a ≤ℤ c
    trans a b c p q = omega (arith, ints)

-- the beginning of no customers
pub root_forward : (g : GraphOf) → IsForward g [] root_label
root_forward g = record { at = refl; load = refl; rows = refl; visited = λ c set. absurd (omega (arith, bit_at-zero c, set)); cost = refl }

-- ---- the least of a pile

-- from a label on whose cost is too high, none adds less, since costs rise
pub least_so_far : (g : GraphOf) (forward : Label) (pile : List Label) (i place : ℕ) (best : ℤ) → All (λ label. IsLabelOf g label × (label.at ≡ place)) pile → IsRising pile → i < length pile
    → best ≤ℤ (arc_of g.folded forward.at place +ℤ (get_or pile i root_label).cost)
    → ((k : ℕ) → k < i → CanJoin g forward (get_or pile k root_label) → best ≤ℤ join_cost g forward (get_or pile k root_label)) → IsLeastJoin g forward pile best
least_so_far g forward pile i place best labels rising lt high before k d within fits =
    let x = get_or pile k root_label in
    let same : get_or pile k root_label ≡ get_or pile k d = get_or_default pile k root_label d within in
    subst (λ (l : Label). best ≤ℤ join_cost g forward l) same
    (elim (cases_lt k i) [
      | inl less ↦ before k less (subst (CanJoin g forward) (sym same) fits)
      | inr past ↦
          let place_is = (labels k root_label within).1 in
          above best (arc_of g.folded forward.at place) (arc_of g.folded forward.at x.at) (get_or pile i root_label).cost x.cost (weigh g.folded.row_prices (bit_and forward.rows x.rows)) (ap (arc_of g.folded forward.at) (sym place_is)) high (rises past)
    ])
  where
    above : (b a a' c c' : ℤ) (w : ℕ) → a ≡ a' → b ≤ℤ (a +ℤ c) → c ≤ℤ c' → b ≤ℤ (a' +ℤ c' +ℤ pos w)
    above b a a' c c' w e p q = omega (arith, ints)

    same_cost : (c : ℤ) → c ≤ℤ c
    same_cost c = omega (arith, ints)

    rises : i ≤ k → (get_or pile i root_label).cost ≤ℤ (get_or pile k root_label).cost
    rises past = elim (cases_eq i k) [
      | inl same ↦ subst (λ n. (get_or pile i root_label).cost ≤ℤ (get_or pile n root_label).cost) same (same_cost (get_or pile i root_label).cost)
      | inr differs ↦ rising i k root_label (let less : i < k = omega (arith, past, differs) in less) within
    ]

pub least_kept : (g : GraphOf) (forward : Label) (pile : List Label) (best next : ℤ) → next ≤ℤ best → IsLeastJoin g forward pile best → IsLeastJoin g forward pile next
least_kept g forward pile best next below least k d lt fits = trans next best (join_cost g forward (get_or pile k d)) below (least k d lt fits)
  where
    trans : (a b c : ℤ) → a ≤ℤ b → b ≤ℤ c → a ≤ℤ c
    trans a b c p q = omega (arith, ints)

-- and where all labels were looked at
pub least_at_end : (g : GraphOf) (forward : Label) (pile : List Label) (i : ℕ) (best : ℤ) → length pile ≤ i
    → ((k : ℕ) → k < i → CanJoin g forward (get_or pile k root_label) → best ≤ℤ join_cost g forward (get_or pile k root_label)) → IsLeastJoin g forward pile best
least_at_end g forward pile i best past before k d within fits =
    let same : get_or pile k root_label ≡ get_or pile k d = get_or_default pile k root_label d within in
    subst (λ (l : Label). best ≤ℤ join_cost g forward l) same (before k (omega (arith, past, within)) (subst (CanJoin g forward) (sym same) fits))

pub least_more : (g : GraphOf) (forward : Label) (pile : List Label) (i : ℕ) (best next : ℤ) → next ≤ℤ best → (CanJoin g forward (get_or pile i root_label) → next ≤ℤ join_cost g forward (get_or pile i root_label))
    → ((k : ℕ) → k < i → CanJoin g forward (get_or pile k root_label) → best ≤ℤ join_cost g forward (get_or pile k root_label))
    → (k : ℕ) → k < i + 1 → CanJoin g forward (get_or pile k root_label) → next ≤ℤ join_cost g forward (get_or pile k root_label)
least_more g forward pile i best next below here before k less fits = elim (cases_lt k i) [
  | inl first ↦ trans next best (join_cost g forward (get_or pile k root_label)) below (before k first fits)
  | inr last ↦
      let same : i ≡ k = omega (arith, less, last) in
      subst (λ n. next ≤ℤ join_cost g forward (get_or pile n root_label)) same (here (subst (λ n. CanJoin g forward (get_or pile n root_label)) (sym same) fits))
]
  where
    trans : (a b c : ℤ) → a ≤ℤ b → b ≤ℤ c → a ≤ℤ c
    trans a b c p q = omega (arith, ints)

-- ---- answers of the look-up

pub cases_z : (a b : ℤ) → (a ≤ℤ b) ⊎ (b ≤ℤ a)
cases_z a b = elim (cases_Bool (le_z a b)) [
  | inl within ↦ inl (yes_z within)
  | inr above ↦ inr (no_z above)
]
  where
    yes_z : le_z a b ≡ true → a ≤ℤ b
    yes_z test = grind (arith, ints)

    no_z : le_z a b ≡ false → b ≤ℤ a
    no_z test = grind (arith, ints)

-- no route costs less than the least at the beginning of no customers, or it is above the gap
pub route_above : (g : GraphOf) (gap : ℤ) (forward : Label) (least : ℤ) (route : List ℕ) → IsForward g [] forward → BoundsCompletions g gap forward least → IsAliveRoute g route → (least ≤ℤ folded_cost g.folded route) ⊎ (gap ≤ℤ folded_cost g.folded route)
route_above g gap forward least route begins low route_is = elim (cases_z (folded_cost g.folded route) gap) [
  | inl cheap ↦ inl (whole forward.cost (completion_cost g forward route) (folded_cost g.folded route) begins.cost (route_completed g [] route forward begins) (low [] route begins (record { is_route = route_is; cheap = cheap })))
  | inr beyond ↦ inr beyond
]
  where
    whole : (c a r : ℤ) → c ≡ pos 0 → r ≡ c +ℤ a → least ≤ℤ a → least ≤ℤ r
    whole c a r z e p = omega (arith, ints)

-- ---- one more customer

-- the beginning with one more customer
pub forward_more : (g : GraphOf) (beginning : List ℕ) (forward : Label) (j : ℕ) → IsForward g beginning forward → IsForward g (j ∷ beginning) (advanced_by g forward j)
forward_more g beginning forward j is = record {
  at = refl;
  load = omega (arith, is.load, load_more g j beginning);
  rows = ap (rows_at g.folded j) is.rows;
  visited = λ c set. elim (cases_eq j c) [
    | inl same ↦ (0, omega arith, same)
    | inr other ↦ behind_head j c beginning (is.visited c (kept (bit_at-pow_other j c (λ same. other (sym same))) (bit_at_or forward.visited (2 ^ j) c) set))
  ];
  cost = dearer forward.cost (beginning_cost g.folded beginning) (arc_of g.folded forward.at j) (arc_of g.folded (first_of beginning) j) (due_at g.folded j forward.rows) (due_at g.folded j (rows_of g.folded beginning)) is.cost (ap (λ n. arc_of g.folded n j) is.at) (ap (due_at g.folded j) is.rows);
}
  where
    kept : {p o v : ℕ} → p ≡ 0 → o ≡ max v p → o ≡ 1 → v ≡ 1
    kept e h is = omega arith

    dearer : (c o a b : ℤ) (p q : ℕ) → c ≡ o → a ≡ b → p ≡ q → c +ℤ a +ℤ pos p ≡ o +ℤ b +ℤ pos q
    dearer c o a b p q e f h = omega (arith, ints)
