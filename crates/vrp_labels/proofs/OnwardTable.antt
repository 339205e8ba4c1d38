-- The table of what the other part of a route costs at least.
use Rattle.std.proofs.Common.{◌≡◌, ◌≢◌, inl, inr, ℕ, ℤ, pos, ◌+ℤ◌, ◌-ℤ◌, ◌≤ℤ◌, suc, ◌<◌, ◌≤◌, ◌+◌, ◌-◌, ◌*◌, ◌/◌, ◌%◌, ◌^◌, List, [], ◌∷◌, ◌++◌, length, get_or, refl, sym, ◌∙◌, ap, subst, arith, bit_and}
use Rattle.std.specs.List.{Contains}
use Rattle.std.proofs.lemmas.Bool.{cases_eq, cases_lt}
use Rattle.std.proofs.lemmas.Int.{ints}
use Rattle.std.proofs.lemmas.List.{get_or_default, get_or_append_left, get_or_push, length_push}
use Rattle.std.proofs.lemmas.List.Elements.{All-head, All-tail}
use Rattle.std.proofs.lemmas.Nat.{div-mul-add, mod-mul-add, mul-add-lt}
use Rattle.std.proofs.Math.Nat.{div-add-mod, div-lt_iff_lt-mul, mod-lt, mul_comm}
use Rattle.vrp_duals.specs.Folding.{arc_of, due_at, first_of, folded_cost, home_cost, rows_of, weigh}
use Rattle.vrp_duals.specs.declared.limits.TheConstants.{MAX_ARC_PRICE}
use Rattle.vrp_labels.specs.Graph.{Follows, GraphOf, IsGraph, demand_at}
use Rattle.vrp_labels.specs.Label.{IsBeyondGap, excess}
use Rattle.vrp_labels.specs.OnwardBound.{IsBelow, IsImproved, BoundsBeginnings, IsBoundStep, IsBoundTable, IsBoundTableTo, no_entry, onward_at}
use Rattle.vrp_labels.specs.declared.onward.BoundEntry.{BoundEntry}
use Rattle.vrp_labels.specs.Route.{IsAliveBeginning, arcs_to, beginning_cost, joined}
use Rattle.vrp_labels.specs.declared.label.Label.{Label}
use Rattle.vrp_labels.proofs.Joins.{halves, route_joined, alive_halves}
use Rattle.vrp_labels.proofs.Endings.{load_more}

-- ---- the table

pub index_inside : (places room rooms j : ℕ) → room < rooms + 1 → j < places → room * places + j < (rooms + 1) * places
index_inside places room rooms j lt place = subst (λ n. room * places + j < n) (turn places rooms) (mul-add-lt room places j (rooms + 1) lt place)
  where
    turn : (a b : ℕ) → a * (b + 1) ≡ (b + 1) * a
    turn a b = omega arith

-- an entry
pub entry_at : (g : GraphOf) (table : List BoundEntry) (count j room : ℕ) → IsBoundTableTo g table count → j < g.folded.places → room * g.folded.places + j < count → IsBoundStep g table j room (onward_at g table j room)
entry_at g table count j room is place lt =
    let k = room * g.folded.places + j in
    subst (λ n. IsBoundStep g table n room (onward_at g table j room)) (mod-mul-add room g.folded.places j place)
    (subst (λ n. IsBoundStep g table (k % g.folded.places) n (onward_at g table j room)) (div-mul-add room g.folded.places j place) (is.each k lt))

-- no beginning costs less than its entry
pub bounds : (g : GraphOf) (table : List BoundEntry) → IsBoundTable g table → BoundsBeginnings g table
bounds g table is [] j room some place light known once apart ahead load =
    (entry_at g table ((g.capacity + 1) * g.folded.places) j room is place (index_inside g.folded.places room g.capacity j (omega (arith, light)) place)).direct ahead
bounds g table is (i ∷ beginning) j room some place light known once apart ahead load =
    let one = All-head (λ i. (1 ≤ i) × (i < g.folded.places)) i beginning known in
    let more = load_more g i beginning in
    let fits : demand_at g i ≤ room = omega (arith, more, load) in
    let step = entry_at g table ((g.capacity + 1) * g.folded.places) j room is place (index_inside g.folded.places room g.capacity j (omega (arith, light)) place) in
    let rest = bounds g table is beginning i (room - demand_at g i) one.0 one.1 (omega (arith, light)) (All-tail (λ i. (1 ≤ i) × (i < g.folded.places)) i beginning known) (λ a b d less within. once (suc a) (suc b) d (omega arith) (omega arith)) fresh ahead.0 (omega (arith, more, load)) in
    let e = onward_at g table i (room - demand_at g i) in
    elim (cases_eq e.by j) [
      | inl same ↦ longer (onward_at g table j room) e.other (arcs_to g.folded beginning i) (arc_of g.folded i j) (step.around i one.0 one.1 ahead.1 fits same) (rest.other (λ is_by. last beginning apart (is_by ∙ same)))
      | inr differs ↦ longer (onward_at g table j room) e.least (arcs_to g.folded beginning i) (arc_of g.folded i j) (step.along i one.0 one.1 ahead.1 fits differs) rest.least
    ]
  where
    longer : (entry : BoundEntry) (y w a : ℤ) → IsBelow entry i (y +ℤ a) → y ≤ℤ w → IsBelow entry i (w +ℤ a)
    longer entry y w a bound q = record { least = under entry.least y w a bound.least q; other = λ differs. under entry.other y w a (bound.other differs) q }
      where
        under : (x y w a : ℤ) → x ≤ℤ (y +ℤ a) → y ≤ℤ w → x ≤ℤ (w +ℤ a)
        under x y w a p q = omega (arith, ints)

    fresh : Contains beginning i → ⊥
    fresh (k, lt, is_i) = once 0 (suc k) i (omega arith) (omega (arith, lt)) (sym is_i)

    last : (rest : List ℕ) → (Contains (i ∷ rest) j → ⊥) → first_of rest ≡ j → ⊥
    last [] out same = omega (arith, same, some)
    last (h ∷ rest) out same = out (1, omega arith, same)

-- ---- one entry more

-- an entry for less room stands before
pub before_entry : (places i j room demand : ℕ) → i < places → 1 ≤ demand → demand ≤ room → (room - demand) * places + i < room * places + j
before_entry places i j room demand place some le =
    let low = mul-add-lt (room - demand) places i room (omega (arith, some, le)) place in
    omega (arith, low, turn places room)
  where
    turn : (a b : ℕ) → a * b ≡ b * a
    turn a b = omega arith

step_grown : (g : GraphOf) (table : List BoundEntry) (j room : ℕ) (value more : BoundEntry) → IsGraph g → j < g.folded.places → room * g.folded.places + j ≤ length table → IsBoundStep g table j room value → IsBoundStep g (table ++ more ∷ []) j room value
step_grown g table j room value more is place long step = record {
  direct = step.direct;
  around = λ i some lt follows demand here.
      let same = kept i some lt demand in
      subst (λ (e : BoundEntry). IsBelow value i (e.other +ℤ arc_of g.folded i j)) same (step.around i some lt follows demand (ap (λ (e : BoundEntry). e.by) same ∙ here));
  along = λ i some lt follows demand here.
      let same = kept i some lt demand in
      subst (λ (e : BoundEntry). IsBelow value i (e.least +ℤ arc_of g.folded i j)) same (step.along i some lt follows demand (λ by. here (sym (ap (λ (e : BoundEntry). e.by) same) ∙ by)));
  low = step.low;
  low_other = step.low_other;
  high = step.high;
  high_other = step.high_other;
}
  where
    kept : (i : ℕ) → 1 ≤ i → i < g.folded.places → demand_at g i ≤ room → onward_at g table i (room - demand_at g i) ≡ onward_at g (table ++ more ∷ []) i (room - demand_at g i)
    kept i some lt demand =
        let before = before_entry g.folded.places i j room (demand_at g i) lt (is.demand i some lt) demand in
        sym (get_or_append_left table (more ∷ []) no_entry ((room - demand_at g i) * g.folded.places + i) (omega (arith, before, long)))

rebuilt : (n k : ℕ) → k / n * n + k % n ≡ k
rebuilt n k = ap (λ m. m + k % n) (mul_comm (k / n) n) ∙ div-add-mod k n

pub table_more : (g : GraphOf) (table : List BoundEntry) (k : ℕ) (value : BoundEntry) → IsGraph g → IsBoundTableTo g table k → IsBoundStep g table (k % g.folded.places) (k / g.folded.places) value → IsBoundTableTo g (table ++ value ∷ []) (k + 1)
table_more g table k value known is step = record {
  long = length_push table value ∙ ap (λ n. n + 1) is.long;
  each = λ m less. elim (cases_lt m k) [
    | inl before ↦ subst (IsBoundStep g (table ++ value ∷ []) (m % g.folded.places) (m / g.folded.places)) (sym (get_or_append_left table (value ∷ []) no_entry m (omega (arith, before, is.long))))
        (grown m (get_or table m no_entry) (omega (arith, before)) (is.each m before))
    | inr last ↦
        let same : k ≡ m = omega (arith, less, last) in
        subst (λ n. IsBoundStep g (table ++ value ∷ []) (n % g.folded.places) (n / g.folded.places) (get_or (table ++ value ∷ []) n no_entry)) same
        (subst (IsBoundStep g (table ++ value ∷ []) (k % g.folded.places) (k / g.folded.places)) (sym (get_or_push table value no_entry k is.long)) (grown k value (omega arith) step))
  ];
}
  where
    grown : (m : ℕ) (v : BoundEntry) → m ≤ k → IsBoundStep g table (m % g.folded.places) (m / g.folded.places) v → IsBoundStep g (table ++ value ∷ []) (m % g.folded.places) (m / g.folded.places) v
    grown m v le at = step_grown g table (m % g.folded.places) (m / g.folded.places) v value known (mod-lt m (omega (arith, known.some_places))) (omega (arith, rebuilt g.folded.places m, le, is.long)) at

pub table_none : (g : GraphOf) → IsBoundTableTo g [] 0
table_none g = record { long = refl; each = λ k lt. absurd (omega (arith, lt)) }

pub table_here : (g : GraphOf) (table : List BoundEntry) (k : ℕ) → IsBoundTableTo g table k → IsBoundTableTo g table (k / g.folded.places * g.folded.places + k % g.folded.places)
table_here g table k is = subst (IsBoundTableTo g table) (sym (rebuilt g.folded.places k)) is

pub room_inside : (places rooms k : ℕ) → 1 ≤ places → k < rooms * places → k / places < rooms
room_inside places rooms k some lt = (div-lt_iff_lt-mul (omega (arith, some))).1 lt

-- ---- labels that no cheap route has

-- the arcs of a beginning cost no more than the beginning
arcs_below : (g : GraphOf) (beginning : List ℕ) (to : ℕ) → arcs_to g.folded beginning to ≤ℤ (beginning_cost g.folded beginning +ℤ arc_of g.folded (first_of beginning) to)
arcs_below g [] to = none (arc_of g.folded 0 to)
  where
    none : (a : ℤ) → a ≤ℤ (pos 0 +ℤ a)
    none a = omega (arith, ints)
arcs_below g (j ∷ beginning) to = more (arcs_to g.folded beginning j) (beginning_cost g.folded beginning) (arc_of g.folded (first_of beginning) j) (arc_of g.folded j to) (due_at g.folded j (rows_of g.folded beginning)) (arcs_below g beginning j)
  where
    more : (w o a b : ℤ) (d : ℕ) → w ≤ℤ (o +ℤ a) → (w +ℤ b) ≤ℤ (o +ℤ a +ℤ pos d +ℤ b)
    more w o a b d p = omega (arith, ints)

pub beyond_gap : (g : GraphOf) (table : List BoundEntry) (gap : ℤ) (label : Label) → BoundsBeginnings g table → 1 ≤ label.at → label.at < g.folded.places → label.load ≤ g.capacity → ((label.cost +ℤ (onward_at g table label.at (g.capacity - label.load)).least) ≤ℤ gap → ⊥) → IsBeyondGap g gap label
beyond_gap g table gap label bounded some place light beyond beginning ending cheap stands =
    let both = halves g beginning ending cheap.is_route.is_ending in
    let ahead = subst (IsAliveBeginning g beginning) (sym stands.at) (alive_halves g beginning ending cheap.is_route).0 in
    let fresh : Contains beginning label.at → ⊥ = λ has. both.apart label.at (heads ending (sym stands.at) some) has in
    let low = bounded beginning label.at (g.capacity - label.load) some place (omega arith) both.known both.once fresh ahead (omega (arith, both.load, stands.load)) in
    beyond (within label.cost (onward_at g table label.at (g.capacity - label.load)).least (arcs_to g.folded beginning label.at) (beginning_cost g.folded beginning) (arc_of g.folded (first_of beginning) label.at) (arc_of g.folded (first_of beginning) (first_of ending)) (home_cost g.folded ending) (folded_cost g.folded (joined beginning ending))
    (excess g label.rows (rows_of g.folded ending)) (weigh g.folded.row_prices (bit_and (rows_of g.folded beginning) (rows_of g.folded ending))) low.least (arcs_below g beginning label.at) (ap (arc_of g.folded (first_of beginning)) stands.at) stands.cost (route_joined g beginning ending) cheap.cheap)
  where
    heads : (ending : List ℕ) {n : ℕ} → first_of ending ≡ n → 1 ≤ n → Contains ending n
    heads [] same some = absurd (omega (arith, same, some))
    heads (j ∷ ending) same some = (0, omega arith, same)

    within : (c t w o a b h r : ℤ) (e m : ℕ) → t ≤ℤ w → w ≤ℤ (o +ℤ a) → a ≡ b → (c +ℤ pos e) ≤ℤ h → r ≡ o +ℤ (b +ℤ h +ℤ pos m) → r ≤ℤ gap → (c +ℤ t) ≤ℤ gap
    within c t w o a b h r e m p q s u v x = omega (arith, ints)

-- what was read from the table
pub entry_read : (g : GraphOf) (table : List BoundEntry) (count j room k : ℕ) (x : BoundEntry) → IsBoundTableTo g table count → k ≡ room * g.folded.places + j → k < length table → x ≡ get_or table k x → x ≡ onward_at g table j room
entry_read g table count j room k x is index lt read = read ∙ get_or_default table k x no_entry lt ∙ ap (λ n. get_or table n no_entry) index

-- ---- the steps of one entry

pub record StepTo (g : GraphOf) (table : List BoundEntry) (j room i : ℕ) (best : BoundEntry) : Type 0 where
  pub direct : Follows g 0 j → IsBelow best 0 (arc_of g.folded 0 j)
  pub around : (k : ℕ) → 1 ≤ k → k < i → Follows g k j → demand_at g k ≤ room → (onward_at g table k (room - demand_at g k)).by ≡ j → IsBelow best k ((onward_at g table k (room - demand_at g k)).other +ℤ arc_of g.folded k j)
  pub along : (k : ℕ) → 1 ≤ k → k < i → Follows g k j → demand_at g k ≤ room → (onward_at g table k (room - demand_at g k)).by ≢ j → IsBelow best k ((onward_at g table k (room - demand_at g k)).least +ℤ arc_of g.folded k j)
  pub low : pos 0 ≤ℤ (best.least +ℤ pos (MAX_ARC_PRICE * (room + 1)))
  pub low_other : pos 0 ≤ℤ (best.other +ℤ pos (MAX_ARC_PRICE * (room + 1)))
  pub high : best.least ≤ℤ pos (2 ^ 62)
  pub high_other : best.other ≤ℤ pos (2 ^ 62)

pub stepped : (g : GraphOf) (table : List BoundEntry) (j room i : ℕ) (best next : BoundEntry) (value : ℤ) → StepTo g table j room i best → IsImproved best next i value
    → (Follows g i j → demand_at g i ≤ room → (onward_at g table i (room - demand_at g i)).by ≡ j → value ≡ (onward_at g table i (room - demand_at g i)).other +ℤ arc_of g.folded i j)
    → (Follows g i j → demand_at g i ≤ room → (onward_at g table i (room - demand_at g i)).by ≢ j → value ≡ (onward_at g table i (room - demand_at g i)).least +ℤ arc_of g.folded i j)
    → pos 0 ≤ℤ (value +ℤ pos (MAX_ARC_PRICE * (room + 1))) → StepTo g table j room (i + 1) next
stepped g table j room i best next value step better around along low = record {
  direct = λ follows. better.kept 0 (arc_of g.folded 0 j) (step.direct follows);
  around = λ k some lt follows demand by. elim (cases_lt k i) [
    | inl before ↦ better.kept k ((onward_at g table k (room - demand_at g k)).other +ℤ arc_of g.folded k j) (step.around k some before follows demand by)
    | inr last ↦ (subst (λ n. Follows g n j → demand_at g n ≤ room → (onward_at g table n (room - demand_at g n)).by ≡ j → IsBelow next n ((onward_at g table n (room - demand_at g n)).other +ℤ arc_of g.folded n j)) (let same : i ≡ k = omega (arith, lt, last) in same)
        (λ f d b. subst (IsBelow next i) (around f d b) better.here)) follows demand by
  ];
  along = λ k some lt follows demand by. elim (cases_lt k i) [
    | inl before ↦ better.kept k ((onward_at g table k (room - demand_at g k)).least +ℤ arc_of g.folded k j) (step.along k some before follows demand by)
    | inr last ↦ (subst (λ n. Follows g n j → demand_at g n ≤ room → (onward_at g table n (room - demand_at g n)).by ≢ j → IsBelow next n ((onward_at g table n (room - demand_at g n)).least +ℤ arc_of g.folded n j)) (let same : i ≡ k = omega (arith, lt, last) in same)
        (λ f d b. subst (IsBelow next i) (along f d b) better.here)) follows demand by
  ];
  low = above next.least bounds_low.0;
  low_other = above next.other bounds_low.1;
  high = (better.high (pos (2 ^ 62)) step.high step.high_other).0;
  high_other = (better.high (pos (2 ^ 62)) step.high step.high_other).1;
}
  where
    below : (z : ℤ) → pos 0 ≤ℤ (z +ℤ pos (MAX_ARC_PRICE * (room + 1))) → (pos 0 -ℤ pos (MAX_ARC_PRICE * (room + 1))) ≤ℤ z
    below z p = omega (arith, ints)

    above : (z : ℤ) → (pos 0 -ℤ pos (MAX_ARC_PRICE * (room + 1))) ≤ℤ z → pos 0 ≤ℤ (z +ℤ pos (MAX_ARC_PRICE * (room + 1)))
    above z p = omega (arith, ints)

    bounds_low : ((pos 0 -ℤ pos (MAX_ARC_PRICE * (room + 1))) ≤ℤ next.least) × ((pos 0 -ℤ pos (MAX_ARC_PRICE * (room + 1))) ≤ℤ next.other)
    bounds_low = better.low (pos 0 -ℤ pos (MAX_ARC_PRICE * (room + 1))) (below best.least step.low) (below best.other step.low_other) (below value low)

-- nothing was looked at
pub stepped_not : (g : GraphOf) (table : List BoundEntry) (j room i : ℕ) (best : BoundEntry) → StepTo g table j room i best → (Follows g i j → demand_at g i ≤ room → ⊥) → StepTo g table j room (i + 1) best
stepped_not g table j room i best step never = record {
  direct = step.direct;
  around = λ k some lt follows demand by. elim (cases_lt k i) [
    | inl before ↦ step.around k some before follows demand by
    | inr last ↦ absurd (not_here k (let same : k ≡ i = omega (arith, lt, last) in same) follows demand)
  ];
  along = λ k some lt follows demand by. elim (cases_lt k i) [
    | inl before ↦ step.along k some before follows demand by
    | inr last ↦ absurd (not_here k (let same : k ≡ i = omega (arith, lt, last) in same) follows demand)
  ];
  low = step.low;
  low_other = step.low_other;
  high = step.high;
  high_other = step.high_other;
}
  where
    not_here : (k : ℕ) → k ≡ i → Follows g k j → demand_at g k ≤ room → ⊥
    not_here k same follows demand = never (subst (λ n. Follows g n j) same follows) (subst (λ n. demand_at g n ≤ room) same demand)

-- an entry for less room
pub record IsEntry (g : GraphOf) (table : List BoundEntry) (i room : ℕ) (entry : BoundEntry) : Type 0 where
  pub is : entry ≡ onward_at g table i (room - demand_at g i)
  pub low : pos 0 ≤ℤ (entry.least +ℤ pos (MAX_ARC_PRICE * room))
  pub low_other : pos 0 ≤ℤ (entry.other +ℤ pos (MAX_ARC_PRICE * room))
  pub high : entry.least ≤ℤ pos (2 ^ 62)
  pub high_other : entry.other ≤ℤ pos (2 ^ 62)

pub entry_of : (g : GraphOf) (table : List BoundEntry) (j room i demand places : ℕ) → IsGraph g → IsBoundTableTo g table (room * g.folded.places + j) → 1 ≤ i → i < g.folded.places → demand ≡ demand_at g i → places ≡ g.folded.places → demand ≤ room
    → IsEntry g table i room (get_or table ((room - demand) * places + i) no_entry)
entry_of g table j room i demand places known is some lt d p le =
    let at : (room - demand) * places + i ≡ (room - demand_at g i) * g.folded.places + i = ap (λ n. (room - n) * places + i) d ∙ ap (λ n. (room - demand_at g i) * n + i) p in
    let less = known.demand i some lt in
    let before = before_entry g.folded.places i j room (demand_at g i) lt less (omega (arith, le, d)) in
    let entry = entry_at g table (room * g.folded.places + j) i (room - demand_at g i) is lt before in
    let same : get_or table ((room - demand) * places + i) no_entry ≡ onward_at g table i (room - demand_at g i) = ap (λ n. get_or table n no_entry) at in
    let down : room - demand_at g i + 1 ≤ room = omega (arith, less, d, le) in
    record {
      is = same;
      low = subst (λ (e : BoundEntry). pos 0 ≤ℤ (e.least +ℤ pos (MAX_ARC_PRICE * room))) (sym same) (higher (onward_at g table i (room - demand_at g i)).least (room - demand_at g i) down entry.low);
      low_other = subst (λ (e : BoundEntry). pos 0 ≤ℤ (e.other +ℤ pos (MAX_ARC_PRICE * room))) (sym same) (higher (onward_at g table i (room - demand_at g i)).other (room - demand_at g i) down entry.low_other);
      high = subst (λ (e : BoundEntry). e.least ≤ℤ pos (2 ^ 62)) (sym same) entry.high;
      high_other = subst (λ (e : BoundEntry). e.other ≤ℤ pos (2 ^ 62)) (sym same) entry.high_other;
    }
  where
    higher : (z : ℤ) (n : ℕ) → n + 1 ≤ room → pos 0 ≤ℤ (z +ℤ pos (MAX_ARC_PRICE * (n + 1))) → pos 0 ≤ℤ (z +ℤ pos (MAX_ARC_PRICE * room))
    higher z n le low = omega (arith, ints)

pub step_done : (g : GraphOf) (table : List BoundEntry) (j room i : ℕ) (best : BoundEntry) → StepTo g table j room i best → g.folded.places ≤ i → IsBoundStep g table j room best
step_done g table j room i best step past = record {
  direct = step.direct;
  around = λ k some lt. step.around k some (omega (arith, lt, past));
  along = λ k some lt. step.along k some (omega (arith, lt, past));
  low = step.low;
  low_other = step.low_other;
  high = step.high;
  high_other = step.high_other;
}
