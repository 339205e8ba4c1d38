-- Graphs with each arc turned round: what routes cost there, and of what their labels are.
use Rattle.std.proofs.Common.{◌≡◌, ℕ, ℤ, pos, ◌+ℤ◌, ◌≤ℤ◌, ◌≤◌, ◌<◌, List, [], ◌∷◌, ◌++◌, get_or, refl, sym, ◌∙◌, ap, subst, arith, bit_and, reverse, append_assoc, append-nil}
use Rattle.std.specs.Int.RustNames.{bit_xor}
use Rattle.std.specs.List.{sum_by}
use Rattle.std.proofs.lemmas.Grind.{reverse_onto}
use Rattle.std.proofs.lemmas.Int.{ints}
use Rattle.std.proofs.lemmas.List.Elements.{All-head, All-nil, All-tail}
use Rattle.vrp_duals.specs.Folding.{AreReversed, FoldedOf, arc_of, due_at, first_of, folded_cost, home_cost, rows_at, rows_of, weigh}
use Rattle.vrp_labels.specs.Closing.{AreKept}
use Rattle.vrp_labels.specs.Fixing.{with_followers}
use Rattle.vrp_labels.specs.Graph.{GraphOf}
use Rattle.vrp_labels.specs.Label.{StandsFor, excess, rows_without}
use Rattle.vrp_labels.specs.Reversal.{IsReversed}
use Rattle.vrp_labels.specs.Route.{IsAliveRoute, IsCheap, beginning_cost, joined}
use Rattle.vrp_labels.specs.declared.label.Label.{Label}
use Rattle.vrp_labels.proofs.AlikeGraphs.{route_alike}
use Rattle.vrp_labels.proofs.EitherEnd.{StandsForBeginning, met_either}
use Rattle.vrp_labels.proofs.Endings.{place_of}
use Rattle.vrp_labels.proofs.Joins.{halves, route_joined}
use Rattle.vrp_labels.proofs.Turned.{HaveTurned, IsKnown, route_turned}

rows_alike : (f r : FoldedOf) → AreReversed f r → (j n : ℕ) → rows_at r j n ≡ rows_at f j n
rows_alike f r is j n = ap (λ (m : List ℕ). bit_xor (bit_and n (get_or m j 0)) (get_or r.members j 0)) is.memories ∙ ap (λ (m : List ℕ). bit_xor (bit_and n (get_or f.memories j 0)) (get_or m j 0)) is.members

rows_reversed : (f r : FoldedOf) → AreReversed f r → (stops : List ℕ) → rows_of r stops ≡ rows_of f stops
rows_reversed f r is [] = refl
rows_reversed f r is (j ∷ stops) = rows_alike f r is j (rows_of r stops) ∙ ap (rows_at f j) (rows_reversed f r is stops)

due_reversed : (f r : FoldedOf) → AreReversed f r → (j : ℕ) (stops : List ℕ) → due_at r j (rows_of r stops) ≡ due_at f j (rows_of f stops)
due_reversed f r is j stops =
    ap (λ (ws : List ℕ). weigh ws (bit_and (rows_of r stops) (get_or r.members j 0))) is.row_prices ∙ (ap (λ (m : List ℕ). weigh f.row_prices (bit_and (rows_of r stops) (get_or m j 0))) is.members ∙ ap (due_at f j) (rows_reversed f r is stops))

added : (a b c d : ℤ) (m n : ℕ) → a ≡ b → c ≡ d → m ≡ n → a +ℤ c +ℤ pos m ≡ b +ℤ d +ℤ pos n
added a b c d m n p q s = cc

-- stops cost as an ending there what they cost as a beginning here
home_reversed : (g r : GraphOf) → IsReversed g r → 1 ≤ g.folded.places → (stops : List ℕ) → IsKnown g stops → home_cost r.folded stops ≡ beginning_cost g.folded stops
home_reversed g r is some [] known = refl
home_reversed g r is some (j ∷ stops) known =
    let rest = All-tail (λ j. (1 ≤ j) × (j < g.folded.places)) j stops known in
    let place = (All-head (λ j. (1 ≤ j) × (j < g.folded.places)) j stops known).1 in
    added (home_cost r.folded stops) (beginning_cost g.folded stops) (arc_of r.folded j (first_of stops)) (arc_of g.folded (first_of stops) j) (due_at r.folded j (rows_of r.folded stops)) (due_at g.folded j (rows_of g.folded stops))
    (home_reversed g r is some stops rest) (is.prices.arcs j (first_of stops) place (place_of g stops some rest)) (due_reversed g.folded r.folded is.prices j stops)

-- and the other way round
beginning_reversed : (g r : GraphOf) → IsReversed g r → 1 ≤ g.folded.places → (stops : List ℕ) → IsKnown g stops → beginning_cost r.folded stops ≡ home_cost g.folded stops
beginning_reversed g r is some [] known = refl
beginning_reversed g r is some (j ∷ stops) known =
    let rest = All-tail (λ j. (1 ≤ j) × (j < g.folded.places)) j stops known in
    let place = (All-head (λ j. (1 ≤ j) × (j < g.folded.places)) j stops known).1 in
    added (beginning_cost r.folded stops) (home_cost g.folded stops) (arc_of r.folded (first_of stops) j) (arc_of g.folded j (first_of stops)) (due_at r.folded j (rows_of r.folded stops)) (due_at g.folded j (rows_of g.folded stops))
    (beginning_reversed g r is some stops rest) (is.prices.arcs (first_of stops) j (place_of g stops some rest) place) (due_reversed g.folded r.folded is.prices j stops)

-- ---- routes

cost_reversed : (g r : GraphOf) → IsReversed g r → 1 ≤ g.folded.places → (beginning ending : List ℕ) → IsKnown g beginning → IsKnown g ending → folded_cost r.folded (joined ending beginning) ≡ folded_cost g.folded (joined beginning ending)
cost_reversed g r is some beginning ending kb ke =
    let rb = rows_of g.folded beginning in
    let re = rows_of g.folded ending in
    let met : weigh r.folded.row_prices (bit_and (rows_of r.folded ending) (rows_of r.folded beginning)) ≡ weigh g.folded.row_prices (bit_and rb re) =
    ap (λ (ws : List ℕ). weigh ws (bit_and (rows_of r.folded ending) (rows_of r.folded beginning))) is.prices.row_prices
    ∙ (ap (λ n. weigh g.folded.row_prices (bit_and n (rows_of r.folded beginning))) (rows_reversed g.folded r.folded is.prices ending)
    ∙ (ap (λ n. weigh g.folded.row_prices (bit_and re n)) (rows_reversed g.folded r.folded is.prices beginning) ∙ met_either g re rb)) in
    same (folded_cost r.folded (joined ending beginning)) (folded_cost g.folded (joined beginning ending)) (beginning_cost r.folded ending) (home_cost g.folded ending) (home_cost r.folded beginning) (beginning_cost g.folded beginning)
    (arc_of r.folded (first_of ending) (first_of beginning)) (arc_of g.folded (first_of beginning) (first_of ending)) (weigh r.folded.row_prices (bit_and (rows_of r.folded ending) (rows_of r.folded beginning))) (weigh g.folded.row_prices (bit_and rb re))
    (route_joined r ending beginning) (route_joined g beginning ending) (beginning_reversed g r is some ending ke) (home_reversed g r is some beginning kb)
    (is.prices.arcs (first_of ending) (first_of beginning) (place_of g ending some ke) (place_of g beginning some kb)) met
  where
    same : (x y oe he hb ob a a' : ℤ) (m n : ℕ) → x ≡ oe +ℤ (a +ℤ hb +ℤ pos m) → y ≡ ob +ℤ (a' +ℤ he +ℤ pos n) → oe ≡ he → hb ≡ ob → a ≡ a' → m ≡ n → x ≡ y
    same x y oe he hb ob a a' m n p q s t u v = omega (arith, ints)

turned_arcs : (g r : GraphOf) → IsReversed g r → HaveTurned g r.followers
turned_arcs g r is from to f t follows = is.followers to from t f ∙ follows

pub route_reversed : (g r : GraphOf) → IsReversed g r → 1 ≤ g.folded.places → (beginning ending : List ℕ) → IsAliveRoute g (joined beginning ending) → IsAliveRoute r (joined ending beginning)
route_reversed g r is some beginning ending route =
    route_alike (with_followers g r.followers) r (joined ending beginning) (record { places = sym is.prices.places; demands = sym is.demands; capacity = sym is.capacity; followers = refl })
    (route_turned g r.followers (turned_arcs g r is) some beginning ending route)

pub cheap_reversed : (g r : GraphOf) (gap : ℤ) → IsReversed g r → 1 ≤ g.folded.places → (beginning ending : List ℕ) → IsCheap g gap (joined beginning ending) → IsCheap r gap (joined ending beginning)
cheap_reversed g r gap is some beginning ending cheap =
    let both = halves g beginning ending cheap.is_route.is_ending in
    record {
      is_route = route_reversed g r is some beginning ending cheap.is_route;
      cheap = subst (λ (z : ℤ). z ≤ℤ gap) (sym (cost_reversed g r is some beginning ending both.known both.is_ending.known)) cheap.cheap;
    }

-- a route read from its other end is its stops as a beginning
joined_onto : (route rest : List ℕ) → joined route rest ≡ reverse route ++ rest
joined_onto [] rest = refl
joined_onto (j ∷ route) rest = joined_onto route (j ∷ rest) ∙ sym (ap (λ (xs : List ℕ). xs ++ rest) (reverse_onto route j []) ∙ append_assoc (reverse route) (j ∷ []) rest)

joined_whole : (route : List ℕ) → joined route [] ≡ reverse route
joined_whole route = joined_onto route [] ∙ append-nil (reverse route)

pub law_cost : (g r : GraphOf) (route : List ℕ) → IsReversed g r → 1 ≤ g.folded.places → IsAliveRoute g route → folded_cost r.folded (reverse route) ≡ folded_cost g.folded route
law_cost g r route is some alive =
    ap (folded_cost r.folded) (sym (joined_whole route)) ∙ cost_reversed g r is some [] route (All-nil (λ j. (1 ≤ j) × (j < g.folded.places))) alive.is_ending.known

pub law_alive : (g r : GraphOf) (route : List ℕ) → IsReversed g r → 1 ≤ g.folded.places → IsAliveRoute g route → IsAliveRoute r (reverse route)
law_alive g r route is some alive = subst (IsAliveRoute r) (joined_whole route) (route_reversed g r is some [] route alive)

pub law_cheap : (g r : GraphOf) (gap : ℤ) (route : List ℕ) → IsReversed g r → 1 ≤ g.folded.places → IsCheap g gap route → IsCheap r gap (reverse route)
law_cheap g r gap route is some cheap = subst (IsCheap r gap) (joined_whole route) (cheap_reversed g r gap is some [] route cheap)

-- ---- labels

-- a label of an ending there is one of the beginning here
pub begins_reversed : (g r : GraphOf) (label : Label) (beginning : List ℕ) → IsReversed g r → 1 ≤ g.folded.places → IsKnown g beginning → StandsFor r label beginning → StandsForBeginning g label beginning
begins_reversed g r label beginning is some known stands = record {
  at = stands.at;
  load = subst (λ (d : List ℕ). label.load ≤ sum_by (λ j. get_or d j 0) beginning) is.demands stands.load;
  visited = stands.visited;
  cost = moved label.cost (home_cost r.folded beginning) (beginning_cost g.folded beginning) (excess r label.rows (rows_of r.folded beginning)) (excess g label.rows (rows_of g.folded beginning))
      (home_reversed g r is some beginning known)
      (ap (λ (ws : List ℕ). weigh ws (rows_without label.rows (rows_of r.folded beginning))) is.prices.row_prices ∙ ap (λ n. weigh g.folded.row_prices (rows_without label.rows n)) (rows_reversed g.folded r.folded is.prices beginning)) stands.cost;
}
  where
    moved : (c h o : ℤ) (e f : ℕ) → h ≡ o → e ≡ f → (c +ℤ pos e) ≤ℤ h → (c +ℤ pos f) ≤ℤ o
    moved c h o e f p q le = omega (arith, ints)

pub kept_reversed : (g r : GraphOf) (kept : List (List Label)) → IsReversed g r → AreKept r kept → AreKept g kept
kept_reversed g r kept is are = record {
  long = are.long ∙ is.prices.places;
  each = λ at label has.
      let one = are.each at label has in
      (record { place = subst (λ n. label.at < n) is.prices.places one.0.place; light = subst (λ n. label.load ≤ n) is.capacity one.0.light; small = one.0.small }, one.1);
}
