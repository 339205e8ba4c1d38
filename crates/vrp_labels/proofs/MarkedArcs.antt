-- Arcs that cheap routes use, by labels of their beginnings.
use Rattle.std.proofs.Common.{◌≡◌, ℕ, ℤ, ◌<◌, ◌≤◌, List, [], ◌∷◌, length, get_or, refl, arith}
use Rattle.std.specs.Int.{bit_at}
use Rattle.std.proofs.lemmas.List.Elements.{All-head}
use Rattle.vrp_duals.specs.Folding.{first_of}
use Rattle.vrp_labels.specs.Completion.{AreCompletions, CompletionsOf, Links}
use Rattle.vrp_labels.specs.Fixing.{AreAlive, AreMarked, IsEven, KeepsCheap, as_forward, with_followers}
use Rattle.vrp_labels.specs.Graph.{GraphOf}
use Rattle.vrp_labels.specs.Label.{IsClosed, root_label}
use Rattle.vrp_labels.specs.Reversal.{IsClosedReversed}
use Rattle.vrp_labels.specs.Route.{IsAliveEnding, IsCheap, joined}
use Rattle.vrp_labels.specs.declared.fixing.Side.{Side}
use Rattle.vrp_labels.specs.declared.fixing.Side.TheVariants.{Beginnings, Endings}
use Rattle.vrp_labels.specs.declared.label.Label.{Label}
use Rattle.vrp_labels.proofs.EitherEnd.{StandsForBeginning, as_forward_begins, begins_links, reversed_cheap, root_begins}
use Rattle.vrp_labels.proofs.Endings.{place_of}
use Rattle.vrp_labels.proofs.Joins.{halves}
use Rattle.vrp_labels.proofs.Reversed.{begins_reversed, cheap_reversed}

-- a label of the beginning of a cheap route, all of whose links are marked
record IsMarkedBy (s : CompletionsOf) (followers : List ℕ) (i : ℕ) (beginning : List ℕ) (forward : Label) : Type 0 where
  stands : StandsForBeginning s.graph forward (i ∷ beginning)
  marked : (j : ℕ) → j < s.graph.folded.places → Links s forward j → bit_at (get_or followers i 0) j ≡ 1

-- each beginning of a cheap route has one
record AreAllMarked (s : CompletionsOf) (followers : List ℕ) : Type 0 where
  depot : (j : ℕ) → j < s.graph.folded.places → Links s root_label j → bit_at (get_or followers 0 0) j ≡ 1
  each : (i : ℕ) (beginning ending : List ℕ) → IsCheap s.graph s.gap (joined (i ∷ beginning) ending) → (forward : Label) × IsMarkedBy s followers i beginning forward

marked : (s : CompletionsOf) (followers : List ℕ) → 1 ≤ s.graph.folded.places → IsClosed s.graph s.gap s.kept → AreAllMarked s followers
    → (beginning ending : List ℕ) → IsCheap s.graph s.gap (joined beginning ending) → bit_at (get_or followers (first_of beginning) 0) (first_of ending) ≡ 1
marked s followers some closed all [] ending cheap =
    let both = halves s.graph [] ending cheap.is_route.is_ending in
    all.depot (first_of ending) (place_of s.graph ending some both.is_ending.known) (begins_links s root_label [] ending closed cheap (root_begins s.graph))
marked s followers some closed all (i ∷ beginning) ending cheap =
    let both = halves s.graph (i ∷ beginning) ending cheap.is_route.is_ending in
    let (forward, by) = all.each i beginning ending cheap in
    by.marked (first_of ending) (place_of s.graph ending some both.is_ending.known) (begins_links s forward (i ∷ beginning) ending closed cheap by.stands)

ending_marked : (g : GraphOf) (gap : ℤ) (followers : List ℕ) → ((beginning ending : List ℕ) → IsCheap g gap (joined beginning ending) → bit_at (get_or followers (first_of beginning) 0) (first_of ending) ≡ 1)
    → (beginning ending : List ℕ) → IsCheap g gap (joined beginning ending) → IsAliveEnding (with_followers g followers) ending
ending_marked g gap followers marks beginning [] cheap = tt
ending_marked g gap followers marks beginning (j ∷ ending) cheap = (marks (j ∷ beginning) ending cheap, ending_marked g gap followers marks (j ∷ beginning) ending cheap)

keeps : (s : CompletionsOf) (followers : List ℕ) → 1 ≤ s.graph.folded.places → IsClosed s.graph s.gap s.kept → length followers ≡ s.graph.folded.places → AreAllMarked s followers → KeepsCheap s.graph s.gap followers
keeps s followers some closed long all = record {
  long = long;
  cheap = λ route cheap. record {
    is_ending = record {
      known = cheap.is_route.is_ending.known;
      once = cheap.is_route.is_ending.once;
      light = cheap.is_route.is_ending.light;
      alive = ending_marked s.graph s.gap followers (marked s followers some closed all) [] route cheap;
    };
    start = marked s followers some closed all [] route cheap;
  };
}

-- where routes cost the same from either end, the closed labels are of beginnings too
pub keeps_even : (s : CompletionsOf) (followers : List ℕ) → IsEven s.graph → 1 ≤ s.graph.folded.places → AreCompletions s → AreMarked s Endings s.kept followers → KeepsCheap s.graph s.gap followers
keeps_even s followers even some is marks =
    let g = s.graph in
    keeps s followers some is.closed marks.long (record {
      depot = (marks.each 0 (omega (arith, some))).depot refl;
      each = λ i beginning ending cheap.
          let both = halves g (i ∷ beginning) ending cheap.is_route.is_ending in
          let known = All-head (λ j. (1 ≤ j) × (j < g.folded.places)) i beginning both.known in
          let (label, has, stands) = is.closed ending (i ∷ beginning) (reversed_cheap g s.gap (i ∷ beginning) ending even some cheap) (λ same. let no : ⊥ = cc in no) in (
            as_forward g label,
            record {
              stands = as_forward_begins g label (i ∷ beginning) even some both.known stands;
              marked = (marks.each i known.1).linked known.0 label has;
            },
          );
    })

-- and elsewhere those of the reversed graph are
pub keeps_reversed : (s : CompletionsOf) (beginnings : List (List Label)) (followers : List ℕ) → 1 ≤ s.graph.folded.places → AreCompletions s → IsClosedReversed s.graph s.gap beginnings → AreMarked s Beginnings beginnings followers → KeepsCheap s.graph s.gap followers
keeps_reversed s beginnings followers some is reversed marks =
    let g = s.graph in
    keeps s followers some is.closed marks.long (record {
      depot = (marks.each 0 (omega (arith, some))).depot refl;
      each = λ i beginning ending cheap.
          let both = halves g (i ∷ beginning) ending cheap.is_route.is_ending in
          let known = All-head (λ j. (1 ≤ j) × (j < g.folded.places)) i beginning both.known in
          let (label, has, stands) = reversed.closed ending (i ∷ beginning) (cheap_reversed g reversed.reversed s.gap reversed.is some (i ∷ beginning) ending cheap) (λ same. let no : ⊥ = cc in no) in (
            label,
            record {
              stands = begins_reversed g reversed.reversed label (i ∷ beginning) reversed.is some both.known stands;
              marked = (marks.each i known.1).linked known.0 label has;
            },
          );
    })

-- each arc that is marked was alive
pub marked_alive : (s : CompletionsOf) (side : Side) (piles : List (List Label)) (followers : List ℕ) → AreMarked s side piles followers → AreAlive s.graph followers
marked_alive s side piles followers marks from to f t set = (marks.each from f).alive to set
