-- Graphs with fewer alive arcs.
use Rattle.std.proofs.Common.{◌≡◌, ℕ, ℤ, ◌<◌, ◌≤◌, List, [], ◌∷◌, length, get_or, refl, arith}
use Rattle.std.specs.Int.{bit_at}
use Rattle.std.specs.List.{All}
use Rattle.std.proofs.lemmas.List.Elements.{All-head, All-tail}
use Rattle.vrp_duals.specs.Folding.{first_of}
use Rattle.vrp_labels.specs.Closing.{AreKept}
use Rattle.vrp_labels.specs.Fixing.{AreAlive, KeepsCheap, with_followers}
use Rattle.vrp_labels.specs.Graph.{GraphOf}
use Rattle.vrp_labels.specs.Label.{IsClosed}
use Rattle.vrp_labels.specs.Route.{IsAliveEnding, IsAliveRoute, IsCheap, joined}
use Rattle.vrp_labels.specs.declared.label.Label.{Label}
use Rattle.vrp_labels.proofs.Endings.{place_of}
use Rattle.vrp_labels.proofs.Joins.{halves}

ending_more : (g : GraphOf) (followers : List ℕ) → AreAlive g followers → 1 ≤ g.folded.places → (ending : List ℕ) → All (λ j. (1 ≤ j) × (j < g.folded.places)) ending → IsAliveEnding (with_followers g followers) ending → IsAliveEnding g ending
ending_more g followers are some [] known alive = tt
ending_more g followers are some (j ∷ ending) known alive =
    let rest = All-tail (λ j. (1 ≤ j) × (j < g.folded.places)) j ending known in
    (are j (first_of ending) (All-head (λ j. (1 ≤ j) × (j < g.folded.places)) j ending known).1 (place_of g ending some rest) alive.0, ending_more g followers are some ending rest alive.1)

-- a route along fewer arcs is one along more
pub route_more : (g : GraphOf) (followers route : List ℕ) → AreAlive g followers → 1 ≤ g.folded.places → IsAliveRoute (with_followers g followers) route → IsAliveRoute g route
route_more g followers route are some is = record {
  is_ending = record { known = is.is_ending.known; once = is.is_ending.once; light = is.is_ending.light; alive = ending_more g followers are some route is.is_ending.known is.is_ending.alive };
  start = are 0 (first_of route) (omega (arith, some)) (place_of g route some is.is_ending.known) is.start;
}

-- so it is cheap in the graph with more
pub cheap_more : (g : GraphOf) (gap : ℤ) (followers route : List ℕ) → AreAlive g followers → 1 ≤ g.folded.places → IsCheap (with_followers g followers) gap route → IsCheap g gap route
cheap_more g gap followers route are some cheap = record { is_route = route_more g followers route are some cheap.is_route; cheap = cheap.cheap }

-- a cheap route is cheap where the arcs are alive that cheap routes use
pub cheap_kept : (g : GraphOf) (gap : ℤ) (followers route : List ℕ) → KeepsCheap g gap followers → IsCheap g gap route → IsCheap (with_followers g followers) gap route
cheap_kept g gap followers route keeps cheap = record { is_route = keeps.cheap route cheap; cheap = cheap.cheap }

-- labels closed in a graph are closed where fewer arcs are alive
pub closed_fewer : (g : GraphOf) (followers : List ℕ) (gap : ℤ) (kept : List (List Label)) → AreAlive g followers → IsClosed g gap kept → IsClosed (with_followers g followers) gap kept
closed_fewer g followers gap kept are closed beginning [] cheap some = absurd (some refl)
closed_fewer g followers gap kept are closed beginning (j ∷ ending) cheap some =
    let known = All-head (λ j. (1 ≤ j) × (j < g.folded.places)) j ending (halves (with_followers g followers) beginning (j ∷ ending) cheap.is_route.is_ending).is_ending.known in
    let (label, has, stands) = closed beginning (j ∷ ending) (cheap_more g gap followers (joined beginning (j ∷ ending)) are (omega (arith, known)) cheap) some in
    (label, has, record { at = stands.at; load = stands.load; visited = stands.visited; cost = stands.cost })

pub kept_fewer : (g : GraphOf) (followers : List ℕ) (kept : List (List Label)) → AreKept g kept → AreKept (with_followers g followers) kept
kept_fewer g followers kept are = record {
  long = are.long;
  each = λ at label has. let one = are.each at label has in (record { place = one.0.place; light = one.0.light; small = one.0.small }, one.1);
}

both_ending : (g : GraphOf) (one other both : List ℕ) → ((from to : ℕ) → from < g.folded.places → bit_at (get_or one from 0) to ≡ 1 → bit_at (get_or other from 0) to ≡ 1 → bit_at (get_or both from 0) to ≡ 1)
    → (ending : List ℕ) → All (λ j. (1 ≤ j) × (j < g.folded.places)) ending → IsAliveEnding (with_followers g one) ending → IsAliveEnding (with_followers g other) ending → IsAliveEnding (with_followers g both) ending
both_ending g one other both has [] known a b = tt
both_ending g one other both has (j ∷ ending) known a b = (
  has j (first_of ending) (All-head (λ j. (1 ≤ j) × (j < g.folded.places)) j ending known).1 a.0 b.0,
  both_ending g one other both has ending (All-tail (λ j. (1 ≤ j) × (j < g.folded.places)) j ending known) a.1 b.1,
)

-- arcs that two lists have in common keep cheap routes, if each list does
pub keeps_both : (g : GraphOf) (gap : ℤ) (one other both : List ℕ) → 1 ≤ g.folded.places → length both ≡ g.folded.places
    → ((from to : ℕ) → from < g.folded.places → bit_at (get_or one from 0) to ≡ 1 → bit_at (get_or other from 0) to ≡ 1 → bit_at (get_or both from 0) to ≡ 1)
    → KeepsCheap g gap one → KeepsCheap g gap other → KeepsCheap g gap both
keeps_both g gap one other both some long has a b = record {
  long = long;
  cheap = λ route cheap.
      let x = a.cheap route cheap in
      let y = b.cheap route cheap in
      record {
        is_ending = record { known = x.is_ending.known; once = x.is_ending.once; light = x.is_ending.light; alive = both_ending g one other both has route x.is_ending.known x.is_ending.alive y.is_ending.alive };
        start = has 0 (first_of route) (omega (arith, some)) x.start y.start;
      };
}
