-- Routes with arcs that are turned round, read from their other ends.
use Rattle.std.proofs.Common.{◌≡◌, ◌≢◌, inl, inr, ℕ, ◌<◌, ◌≤◌, ◌+◌, zero, suc, ◌⊎◌, List, [], ◌∷◌, get_or, sym, ◌∙◌, arith}
use Rattle.std.specs.Int.{bit_at}
use Rattle.std.specs.List.{All, AllPairs, Contains}
use Rattle.std.proofs.lemmas.List.Elements.{All-cons, All-head, All-tail, Contains-get_or}
use Rattle.std.proofs.lemmas.List.Kept.{AllPairs-cons}
use Rattle.vrp_duals.specs.Folding.{first_of}
use Rattle.vrp_labels.specs.Fixing.{with_followers}
use Rattle.vrp_labels.specs.Graph.{Follows, GraphOf}
use Rattle.vrp_labels.specs.Route.{IsAliveBeginning, IsAliveEnding, IsAliveRoute, joined, load_in_units}
use Rattle.vrp_labels.proofs.Endings.{behind_head, load_more, place_of}
use Rattle.vrp_labels.proofs.Joins.{alive_halves, halves, meeting_alive}

abbrev pub IsKnown : GraphOf → List ℕ → Type 0
IsKnown g ending = All (λ j. (1 ≤ j) × (j < g.folded.places)) ending

-- two halves with nobody in common make a route
whole : (g : GraphOf) (beginning ending : List ℕ) → IsKnown g beginning → IsKnown g ending → AllPairs (λ a b. a ≢ b) beginning → AllPairs (λ a b. a ≢ b) ending → ((c : ℕ) → Contains ending c → Contains beginning c → ⊥)
    → load_in_units g beginning + load_in_units g ending ≤ g.capacity → IsAliveBeginning g beginning (first_of ending) → IsAliveEnding g ending → IsAliveRoute g (joined beginning ending)
whole g [] ending kb kp ob op apart load ahead homeward = record { is_ending = record { known = kp; once = op; light = omega (arith, load); alive = homeward }; start = ahead }
whole g (j ∷ beginning) ending kb kp ob op apart load ahead homeward =
    whole g beginning (j ∷ ending) (All-tail (λ j. (1 ≤ j) × (j < g.folded.places)) j beginning kb) (All-cons (λ j. (1 ≤ j) × (j < g.folded.places)) j ending (All-head (λ j. (1 ≤ j) × (j < g.folded.places)) j beginning kb) kp)
    (λ i k d less within. ob (suc i) (suc k) d (omega arith) (omega arith))
    (AllPairs-cons (λ a b. a ≢ b) j ending (λ k d lt same. apart (get_or ending k d) (Contains-get_or ending k d lt) (0, omega arith, same)) op)
    (λ c has other. elim (parted j c ending has) [
      | inl same ↦ fresh c same other
      | inr behind ↦ apart c behind (behind_head j c beginning other)
    ])
    (omega (arith, load, load_more g j beginning, load_more g j ending)) ahead.0 (ahead.1, homeward)
  where
    fresh : (c : ℕ) → j ≡ c → Contains beginning c → ⊥
    fresh c same (k, lt, is) = ob 0 (suc k) c (omega arith) (omega (arith, lt)) (same ∙ sym is)

    parted : (j c : ℕ) (ending : List ℕ) → Contains (j ∷ ending) c → (j ≡ c) ⊎ Contains ending c
    parted j c ending (zero, lt, is) = inl is
    parted j c ending (suc k, lt, is) = inr (k, omega (arith, lt), is)

-- these arcs are those of the graph, turned round
abbrev pub HaveTurned : GraphOf → List ℕ → Type 0
HaveTurned g followers = (from to : ℕ) → from < g.folded.places → to < g.folded.places → Follows g from to → bit_at (get_or followers to 0) from ≡ 1

ending_turned : (g : GraphOf) (followers : List ℕ) → HaveTurned g followers → 1 ≤ g.folded.places → (beginning : List ℕ) → IsKnown g beginning → (to : ℕ) → IsAliveBeginning g beginning to → IsAliveEnding (with_followers g followers) beginning
ending_turned g followers turned some [] known to ahead = tt
ending_turned g followers turned some (j ∷ beginning) known to ahead =
    let rest = All-tail (λ j. (1 ≤ j) × (j < g.folded.places)) j beginning known in
    let place = (All-head (λ j. (1 ≤ j) × (j < g.folded.places)) j beginning known).1 in
    (turned (first_of beginning) j (place_of g beginning some rest) place (meeting_alive g beginning j ahead.0), ending_turned g followers turned some beginning rest j ahead.0)

beginning_turned : (g : GraphOf) (followers : List ℕ) → HaveTurned g followers → 1 ≤ g.folded.places → (ending : List ℕ) → IsKnown g ending → (to : ℕ) → to < g.folded.places → Follows g to (first_of ending) → IsAliveEnding g ending
    → IsAliveBeginning (with_followers g followers) ending to
beginning_turned g followers turned some [] known to lt meets homeward = turned to 0 lt (omega (arith, some)) meets
beginning_turned g followers turned some (j ∷ ending) known to lt meets homeward =
    let place = (All-head (λ j. (1 ≤ j) × (j < g.folded.places)) j ending known).1 in
    (beginning_turned g followers turned some ending (All-tail (λ j. (1 ≤ j) × (j < g.folded.places)) j ending known) j place homeward.0 homeward.1, turned to j lt place meets)

pub route_turned : (g : GraphOf) (followers : List ℕ) → HaveTurned g followers → 1 ≤ g.folded.places → (beginning ending : List ℕ) → IsAliveRoute g (joined beginning ending) → IsAliveRoute (with_followers g followers) (joined ending beginning)
route_turned g followers turned some beginning ending route =
    let both = halves g beginning ending route.is_ending in
    let (ahead, homeward) = alive_halves g beginning ending route in
    let known = both.is_ending.known in
    let load : load_in_units g ending + load_in_units g beginning ≤ g.capacity = omega (arith, both.load) in
    whole (with_followers g followers) ending beginning known both.known both.is_ending.once both.once (λ c has other. both.apart c other has) load
    (beginning_turned g followers turned some ending known (first_of beginning) (place_of g beginning some both.known) (meeting_alive g beginning (first_of ending) ahead) homeward)
    (ending_turned g followers turned some beginning both.known (first_of ending) ahead)
