-- Look-up by bands of load.
use Rattle.std.proofs.Common.{◌≡◌, inl, inr, ℕ, ℤ, pos, ◌+ℤ◌, ◌≤ℤ◌, ◌+◌, ◌-◌, ◌*◌, ◌/◌, ◌<◌, ◌≤◌, ◌^◌, List, length, get_or, sym, ◌∙◌, ap, subst, arith, bit_and, unsigned_abs}
use Rattle.std.specs.List.{All, Contains, slice_range}
use Rattle.std.proofs.lemmas.Bool.{cases_lt}
use Rattle.std.proofs.lemmas.Int.{ints}
use Rattle.std.proofs.Math.Nat.{div-mul-le_self}
use Rattle.std.proofs.lemmas.List.{get_or_default}
use Rattle.std.proofs.lemmas.Nat.{le-div, pow_pos}
use Rattle.vrp_duals.specs.Folding.{arc_of, weigh}
use Rattle.vrp_labels.specs.Bands.{IsBand, label_at}
use Rattle.vrp_labels.specs.Completion.{CanJoin, IsJoinCost, IsLeastJoin, Meets, join_cost}
use Rattle.vrp_labels.specs.Graph.{GraphOf}
use Rattle.vrp_labels.specs.Closing.{AreKept}
use Rattle.vrp_labels.specs.Label.{IsLabelOf, pile_at, root_label}
use Rattle.vrp_labels.specs.Sorting.{band_at}
use Rattle.vrp_labels.specs.declared.bands.Band.{Band}
use Rattle.vrp_labels.specs.declared.label.Label.{Label}
use Rattle.vrp_labels.specs.declared.graph.TheConstants.{MAX_UNITS}
use Rattle.vrp_labels.proofs.ClosingSteps.{in_kept}
use Rattle.vrp_labels.proofs.Slices.{get_or_part, length_part}

pub band_mono : (shift a b : ℕ) → a ≤ b → band_at shift a ≤ band_at shift b
band_mono shift a b le = le-div (a / 2 ^ shift) b (2 ^ shift) (pow_pos shift) (omega (arith, le, div-mul-le_self a (2 ^ shift)))

-- a label that can join is of no higher band than what there is room for
pub light_band : (g : GraphOf) (forward label : Label) (shift : ℕ) → CanJoin g forward label → band_at shift label.load ≤ band_at shift (g.capacity - forward.load)
light_band g forward label shift fits = band_mono shift label.load (g.capacity - forward.load) (omega (arith, fits.light))

-- a label of a band is in its part of the pile
pub in_part : (shift b : ℕ) (pile : List Label) (band : Band) (i : ℕ) → IsBand shift b pile band → i < length pile → band_at shift (label_at pile i).load ≡ b → Contains (slice_range pile band.from band.to) (label_at pile i)
in_part shift b pile band i is lt mine =
    let (past, before) = is.mine i lt mine in
    let x = label_at pile i in
    let at : band.from + (i - band.from) ≡ i = omega (arith, past) in (
      i - band.from,
      omega (arith, past, before, length_part pile band.from band.to is.order is.within),
      get_or_part pile band.from band.to (i - band.from) x (omega (arith, past, before)) ∙ (ap (λ n. get_or pile n x) at ∙ get_or_default pile i x root_label lt),
    )

pub of_part : (pile : List Label) (from to : ℕ) (x : Label) → from ≤ to → to ≤ length pile → Contains (slice_range pile from to) x → Contains pile x
of_part pile from to x order within (k, lt, is) =
    let inside : k < to - from = omega (arith, lt, length_part pile from to order within) in
    (from + k, omega (arith, order, within, inside), sym (get_or_part pile from to k x inside) ∙ is)

-- ---- where a beginning meets no label

-- no label of the bands down to the top one less this many meets it
abbrev pub NoneDownTo : GraphOf → ℤ → Label → List Label → ℕ → ℕ → ℕ → Type 0
NoneDownTo g gap forward pile shift top count = (i : ℕ) → i < length pile → top < band_at shift (label_at pile i).load + count → Meets g gap forward (label_at pile i) → ⊥

pub none_above : (g : GraphOf) (gap : ℤ) (forward : Label) (pile : List Label) (shift top : ℕ) → top ≡ band_at shift (g.capacity - forward.load) → NoneDownTo g gap forward pile shift top 0
none_above g gap forward pile shift top is i lt above meets = omega (arith, is, above, light_band g forward (label_at pile i) shift meets.fits)

pub none_below : (g : GraphOf) (gap : ℤ) (forward : Label) (pile : List Label) (shift top count : ℕ) (band : Band) → count ≤ top → IsBand shift (top - count) pile band → NoneDownTo g gap forward pile shift top count
    → ((label : Label) → Contains (slice_range pile band.from band.to) label → Meets g gap forward label → ⊥) → NoneDownTo g gap forward pile shift top (count + 1)
none_below g gap forward pile shift top count band le is before here i lt above meets = elim (cases_lt top (band_at shift (label_at pile i).load + count)) [
  | inl higher ↦ before i lt higher meets
  | inr last ↦ here (label_at pile i) (in_part shift (top - count) pile band i is lt (let mine : band_at shift (label_at pile i).load ≡ top - count = omega (arith, above, last, le) in mine)) meets
]

-- where the least of a band and those below costs too much
pub none_cheaper : (g : GraphOf) (gap : ℤ) (forward : Label) (pile : List Label) (place shift top count : ℕ) (band : Band) → All (λ label. IsLabelOf g label × (label.at ≡ place)) pile → count ≤ top → IsBand shift (top - count) pile band → NoneDownTo g gap forward pile shift top count
    → ((forward.cost +ℤ arc_of g.folded forward.at place +ℤ band.least) ≤ℤ gap → ⊥) → (label : Label) → Contains pile label → Meets g gap forward label → ⊥
none_cheaper g gap forward pile place shift top count band labels le is before dear label (k, within, same) meets =
    let here : label_at pile k ≡ label = get_or_default pile k root_label label within ∙ same in
    let met : Meets g gap forward (label_at pile k) = subst (Meets g gap forward) (sym here) meets in
    let x = label_at pile k in
    elim (cases_lt top (band_at shift x.load + count)) [
      | inl higher ↦ before k within higher met
      | inr low ↦ dear (lower forward.cost (arc_of g.folded forward.at place) (arc_of g.folded forward.at x.at) band.least x.cost (weigh g.folded.row_prices (bit_and forward.rows x.rows))
          (ap (arc_of g.folded forward.at) (sym (labels k root_label within).1)) (is.least k within (omega (arith, low, le))) met.cheap)
    ]
  where
    lower : (f a a' c c' : ℤ) (w : ℕ) → a ≡ a' → c ≤ℤ c' → (f +ℤ (a' +ℤ c' +ℤ pos w)) ≤ℤ gap → (f +ℤ a +ℤ c) ≤ℤ gap
    lower f a a' c c' w e p q = omega (arith, ints)

pub none_at_all : (g : GraphOf) (gap : ℤ) (forward : Label) (pile : List Label) (shift top count : ℕ) → top < count → NoneDownTo g gap forward pile shift top count → (label : Label) → Contains pile label → Meets g gap forward label → ⊥
none_at_all g gap forward pile shift top count past none label (k, within, same) meets =
    none k within (omega (arith, past)) (subst (Meets g gap forward) (sym (get_or_default pile k root_label label within ∙ same)) meets)

-- ---- what labels add at least

abbrev pub LeastDownTo : GraphOf → Label → List Label → ℕ → ℕ → ℕ → ℤ → Type 0
LeastDownTo g forward pile shift top count best = (i : ℕ) → i < length pile → top < band_at shift (label_at pile i).load + count → CanJoin g forward (label_at pile i) → best ≤ℤ join_cost g forward (label_at pile i)

trans : (a b c : ℤ) → a ≤ℤ b → b ≤ℤ c → a ≤ℤ c
trans a b c p q = omega (arith, ints)

pub least_above : (g : GraphOf) (forward : Label) (pile : List Label) (shift top : ℕ) (best : ℤ) → top ≡ band_at shift (g.capacity - forward.load) → LeastDownTo g forward pile shift top 0 best
least_above g forward pile shift top best is i lt above fits = absurd (omega (arith, is, above, light_band g forward (label_at pile i) shift fits))

pub least_below : (g : GraphOf) (forward : Label) (pile : List Label) (shift top count : ℕ) (band : Band) (best next : ℤ) → count ≤ top → IsBand shift (top - count) pile band → LeastDownTo g forward pile shift top count best
    → next ≤ℤ best → IsLeastJoin g forward (slice_range pile band.from band.to) next → LeastDownTo g forward pile shift top (count + 1) next
least_below g forward pile shift top count band best next le is before low here i lt above fits = elim (cases_lt top (band_at shift (label_at pile i).load + count)) [
  | inl higher ↦ trans next best (join_cost g forward (label_at pile i)) low (before i lt higher fits)
  | inr last ↦
      let (k, within, same) = in_part shift (top - count) pile band i is lt (let mine : band_at shift (label_at pile i).load ≡ top - count = omega (arith, above, last, le) in mine) in
      subst (λ (l : Label). CanJoin g forward l → next ≤ℤ join_cost g forward l) same (here k (label_at pile i) within) fits
]

pub least_cheaper : (g : GraphOf) (forward : Label) (pile : List Label) (place shift top count : ℕ) (band : Band) (best : ℤ) → All (λ label. IsLabelOf g label × (label.at ≡ place)) pile → count ≤ top → IsBand shift (top - count) pile band
    → LeastDownTo g forward pile shift top count best → best ≤ℤ (arc_of g.folded forward.at place +ℤ band.least) → IsLeastJoin g forward pile best
least_cheaper g forward pile place shift top count band best labels le is before dear k d within fits =
    let same : label_at pile k ≡ get_or pile k d = get_or_default pile k root_label d within in
    let x = label_at pile k in
    let joins : CanJoin g forward x = subst (CanJoin g forward) (sym same) fits in
    subst (λ (l : Label). best ≤ℤ join_cost g forward l) same (elim (cases_lt top (band_at shift x.load + count)) [
      | inl higher ↦ before k within higher joins
      | inr low ↦ above best (arc_of g.folded forward.at place) (arc_of g.folded forward.at x.at) band.least x.cost (weigh g.folded.row_prices (bit_and forward.rows x.rows))
          (ap (arc_of g.folded forward.at) (sym (labels k root_label within).1)) dear (is.least k within (omega (arith, low, le)))
    ])
  where
    above : (b a a' c c' : ℤ) (w : ℕ) → a ≡ a' → b ≤ℤ (a +ℤ c) → c ≤ℤ c' → b ≤ℤ (a' +ℤ c' +ℤ pos w)
    above b a a' c c' w e p q = omega (arith, ints)

pub least_of_bands : (g : GraphOf) (forward : Label) (pile : List Label) (shift top count : ℕ) (best : ℤ) → top < count → LeastDownTo g forward pile shift top count best → IsLeastJoin g forward pile best
least_of_bands g forward pile shift top count best past least k d within fits =
    let same : label_at pile k ≡ get_or pile k d = get_or_default pile k root_label d within in
    subst (λ (l : Label). best ≤ℤ join_cost g forward l) same (least k within (omega (arith, past)) (subst (CanJoin g forward) (sym same) fits))

pub join_of_part : (g : GraphOf) (forward : Label) (pile : List Label) (from to : ℕ) (cost : ℤ) → from ≤ to → to ≤ length pile → IsJoinCost g forward (slice_range pile from to) cost → IsJoinCost g forward pile cost
join_of_part g forward pile from to cost order within (label, has, fits, is) = (label, of_part pile from to label order within has, fits, is)

-- ---- costs of kept labels

pub costs_fit : (g : GraphOf) (kept : List (List Label)) → g.capacity ≤ MAX_UNITS → AreKept g kept → (place : ℕ) → All (λ label. unsigned_abs label.cost ≤ 3 * 2 ^ 60) (pile_at kept place)
costs_fit g kept fits are place k d lt =
    let one = (in_kept g place kept are k d lt).0 in
    omega (arith, fits, one.light, one.small)
