-- Labels that were closed where rows are remembered at fewer places.
use Rattle.std.proofs.Common.{◌≡◌, ℕ, get_or, ◌+◌, ◌-◌, ◌%◌, ◌<◌, ◌≤◌, List, [], ◌∷◌, refl, sym, ◌∙◌, subst, arith, ℤ, pos, ◌+ℤ◌, ◌≤ℤ◌, bit_and, min}
use Rattle.std.specs.Int.{bit_at}
use Rattle.std.specs.List.{All}
use Rattle.std.proofs.lemmas.Int.{ints}
use Rattle.std.proofs.lemmas.List.Elements.{All-head, All-tail}
use Rattle.std.proofs.lemmas.Nat.Bits.{bit_at-lt, bit_at_and}
use Rattle.vrp_duals.specs.Folding.{arc_of, due_at, first_of, folded_cost, home_cost, members_at, memories_at, rows_at, rows_of}
use Rattle.vrp_labels.specs.Closing.{AreKept}
use Rattle.vrp_labels.specs.Fixing.{AreAlive, KeepsCheap, with_followers}
use Rattle.vrp_labels.specs.Graph.{GraphOf}
use Rattle.vrp_labels.specs.Label.{IsClosed, StandsFor, excess, rows_without}
use Rattle.vrp_labels.specs.Route.{IsCheap, joined}
use Rattle.vrp_labels.specs.Widening.{AreWider, IsClosedBelow, IsWiderAt, with_memories}
use Rattle.vrp_labels.specs.declared.label.Label.{Label}
use Rattle.vrp_labels.proofs.AlikeGraphs.{route_alike}
use Rattle.vrp_labels.proofs.FewerArcs.{closed_fewer, kept_fewer}
use Rattle.vrp_labels.proofs.Joins.{halves}
use Rattle.vrp_labels.proofs.RowExcess.{bit_at_without, bit_at_rows, excess_same, excess_trans, from_bits, weigh_bits}

-- what a row costs less in the one graph it has in excess there
excess_wider : (g : GraphOf) (memories : List ℕ) (j : ℕ) → IsWiderAt g.folded j (get_or memories j 0) → (a b : ℕ) → due_at g.folded j a + excess g (rows_at g.folded j a) (rows_at (with_memories g memories).folded j b) ≤ excess g a b + due_at g.folded j b
excess_wider g memories j wider a b =
    let w = with_memories g memories in
    let m = memories_at g.folded j in
    let n = memories_at w.folded j in
    let t = members_at g.folded j in
    weigh_bits g.folded.row_prices (bit_and a t) (rows_without (rows_at g.folded j a) (rows_at w.folded j b)) (rows_without a b) (bit_and b t)
    (λ i. from_bits (bit_at_and a t i) (bit_at_without (rows_at g.folded j a) (rows_at w.folded j b) i ∙ both (bit_at_rows m t a i) (bit_at_rows n t b i)) (bit_at_without a b i) (bit_at_and b t i)
    (each (bit_at a i) (bit_at b i) (bit_at m i) (bit_at n i) (bit_at t i) (bit_at-lt a i) (bit_at-lt b i) (bit_at-lt n i) (wider.within i) (wider.more i)))
  where
    both : {x y x' y' : ℕ} → x ≡ x' → y ≡ y' → x - y ≡ x' - y'
    both e f = omega arith

    each : (x y m n t : ℕ) → x < 2 → y < 2 → n < 2 → t ≤ m → m ≤ n → min x t + ((min x m + t) % 2 - (min y n + t) % 2) ≤ (x - y) + min y t
    each x y m n t p q r s u = omega arith

ending_wider : (g : GraphOf) (memories : List ℕ) → AreWider g.folded memories → (ending : List ℕ) → All (λ j. (1 ≤ j) × (j < g.folded.places)) ending → (home_cost g.folded ending +ℤ pos (excess g (rows_of g.folded ending) (rows_of (with_memories g memories).folded ending))) ≤ℤ home_cost (with_memories g memories).folded ending
ending_wider g memories wider [] known = let none = excess_same g 0 in omega (arith, ints, none)
ending_wider g memories wider (j ∷ ending) known =
    let w = with_memories g memories in
    more (home_cost g.folded ending) (home_cost w.folded ending) (arc_of g.folded j (first_of ending)) (due_at g.folded j (rows_of g.folded ending)) (due_at g.folded j (rows_of w.folded ending)) (excess g (rows_of g.folded ending) (rows_of w.folded ending)) (excess g (rows_at g.folded j (rows_of g.folded ending)) (rows_at w.folded j (rows_of w.folded ending)))
    (ending_wider g memories wider ending (All-tail (λ j. (1 ≤ j) × (j < g.folded.places)) j ending known))
    (excess_wider g memories j (wider j (All-head (λ j. (1 ≤ j) × (j < g.folded.places)) j ending known).1) (rows_of g.folded ending) (rows_of w.folded ending))
  where
    more : (h k a : ℤ) (d e x y : ℕ) → (h +ℤ pos x) ≤ℤ k → d + y ≤ x + e → (h +ℤ a +ℤ pos d +ℤ pos y) ≤ℤ (k +ℤ a +ℤ pos e)
    more h k a d e x y p q = omega (arith, ints)

stands_wider : (g : GraphOf) (memories : List ℕ) (label : Label) (ending : List ℕ) → AreWider g.folded memories → All (λ j. (1 ≤ j) × (j < g.folded.places)) ending → StandsFor g label ending → StandsFor (with_memories g memories) label ending
stands_wider g memories label ending wider known stands =
    let w = with_memories g memories in
    record {
      at = stands.at;
      load = stands.load;
      visited = stands.visited;
      cost = dearer label.cost (home_cost g.folded ending) (home_cost w.folded ending) (excess g label.rows (rows_of w.folded ending)) (excess g label.rows (rows_of g.folded ending)) (excess g (rows_of g.folded ending) (rows_of w.folded ending))
          (excess_trans g label.rows (rows_of g.folded ending) (rows_of w.folded ending)) stands.cost (ending_wider g memories wider ending known);
    }
  where
    dearer : (c h k : ℤ) (e f x : ℕ) → e ≤ f + x → (c +ℤ pos f) ≤ℤ h → (h +ℤ pos x) ≤ℤ k → (c +ℤ pos e) ≤ℤ k
    dearer c h k e f x p q r = omega (arith, ints)

-- a route costs no less
pub route_wider : (g : GraphOf) (memories : List ℕ) (route : List ℕ) → AreWider g.folded memories → All (λ j. (1 ≤ j) × (j < g.folded.places)) route → folded_cost g.folded route ≤ℤ folded_cost (with_memories g memories).folded route
route_wider g memories route wider known =
    let w = with_memories g memories in
    more (arc_of g.folded 0 (first_of route)) (home_cost g.folded route) (home_cost w.folded route) (excess g (rows_of g.folded route) (rows_of w.folded route)) (ending_wider g memories wider route known)
  where
    more : (a h k : ℤ) (x : ℕ) → (h +ℤ pos x) ≤ℤ k → (a +ℤ h) ≤ℤ (a +ℤ k)
    more a h k x p = omega (arith, ints)

-- a cheap route of the graph with more memories is cheap in the other
pub cheap_wider : (g : GraphOf) (memories : List ℕ) (gap : ℤ) (route : List ℕ) → AreWider g.folded memories → IsCheap (with_memories g memories) gap route → IsCheap g gap route
cheap_wider g memories gap route wider cheap = record {
  is_route = route_alike (with_memories g memories) g route (record { places = refl; demands = refl; capacity = refl; followers = refl }) cheap.is_route;
  cheap = trans (folded_cost g.folded route) (folded_cost (with_memories g memories).folded route) (route_wider g memories route wider cheap.is_route.is_ending.known) cheap.cheap;
}
  where
    trans : (a b : ℤ) → a ≤ℤ b → b ≤ℤ gap → a ≤ℤ gap
    trans a b p q = omega (arith, ints)

closed_wider : (g : GraphOf) (memories : List ℕ) (gap : ℤ) (kept : List (List Label)) → AreWider g.folded memories → IsClosed g gap kept → IsClosed (with_memories g memories) gap kept
closed_wider g memories gap kept wider closed beginning ending cheap some =
    let w = with_memories g memories in
    let route = joined beginning ending in
    let (label, has, stands) = closed beginning ending (cheap_wider g memories gap route wider cheap) some in
    (label, has, stands_wider g memories label ending wider (halves w beginning ending cheap.is_route.is_ending).is_ending.known stands)

kept_wider : (g : GraphOf) (memories : List ℕ) (kept : List (List Label)) → AreKept g kept → AreKept (with_memories g memories) kept
kept_wider g memories kept are = record {
  long = are.long;
  each = λ at label has. let one = are.each at label has in (record { place = one.0.place; light = one.0.light; small = one.0.small }, one.1);
}

pub closed_above : (wide : GraphOf) (gap : ℤ) (kept : List (List Label)) → IsClosedBelow wide gap kept → IsClosed wide gap kept
closed_above wide gap kept below =
    let memories = wide.folded.memories in
    subst (λ (g : GraphOf). IsClosed g gap kept) below.is
    (closed_fewer (with_memories below.narrow memories) wide.followers gap kept below.alive (closed_wider below.narrow memories gap kept below.wider below.closed))

pub kept_above : (wide : GraphOf) (gap : ℤ) (kept : List (List Label)) → IsClosedBelow wide gap kept → AreKept wide kept
kept_above wide gap kept below =
    let memories = wide.folded.memories in
    subst (λ (g : GraphOf). AreKept g kept) below.is (kept_fewer (with_memories below.narrow memories) wide.followers kept (kept_wider below.narrow memories kept below.are_kept))

-- so arcs that cheap routes use in the other are kept for its own
pub keeps_wider : (g : GraphOf) (memories : List ℕ) (gap : ℤ) (followers : List ℕ) → AreWider g.folded memories → KeepsCheap g gap followers → KeepsCheap (with_memories g memories) gap followers
keeps_wider g memories gap followers wider keeps = record {
  long = keeps.long;
  cheap = λ route cheap. route_alike (with_followers g followers) (with_followers (with_memories g memories) followers) route (record { places = refl; demands = refl; capacity = refl; followers = refl })
      (keeps.cheap route (cheap_wider g memories gap route wider cheap));
}

-- labels that were closed in a graph serve where fewer arcs are alive, and then rows are remembered at more places
pub closed_below : (g : GraphOf) (followers memories : List ℕ) (wide : GraphOf) (gap : ℤ) (kept : List (List Label)) → wide ≡ with_memories (with_followers g followers) memories → AreAlive g followers → AreWider g.folded memories → AreKept g kept → IsClosed g gap kept
    → IsClosedBelow wide gap kept
closed_below g followers memories wide gap kept is alive wider are closed = subst (λ (w : GraphOf). IsClosedBelow w gap kept) (sym is) (record {
  narrow = g;
  is = refl;
  wider = wider;
  alive = alive;
  are_kept = are;
  closed = closed;
})
