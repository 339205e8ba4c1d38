-- Labels, the endings of routes that they stand for, and dominance (Feillet, Dejax, Gendreau and Gueguen 2004; with ng-sets Baldacci,
-- Mingozzi and Roberti 2011; with subset rows Jepsen, Petersen, Spoorendonk and Pisinger 2008).
use Rattle.std.specs.Prelude.{◌≡◌, ◌≢◌, ◌≤◌, ◌<◌, ◌≤ℤ◌, ◌*◌, ◌^◌, ℕ, ℤ, pos, ◌+ℤ◌, ◌+◌, List, [], bit_and, bit_or, bit_xor, slice_index_or, unsigned_abs}
use Rattle.std.specs.Int.{bit_at}
use Rattle.std.specs.List.{Contains}
use Rattle.vrp_duals.specs.Folding.{arc_of, due_at, first_of, home_cost, rows_at, rows_of, weigh}
use Rattle.vrp_duals.specs.declared.limits.TheConstants.{MAX_ARC_PRICE, MAX_ROW_CHARGE}
use Rattle.vrp_labels.specs.Graph.{Follows, GraphOf, demand_at, near_at}
use Rattle.vrp_labels.specs.Route.{IsCheap, joined, load_in_units}
use Rattle.vrp_labels.specs.declared.label.Label.{Label}

-- the rows of one set that the other lacks
abbrev pub rows_without : ℕ → ℕ → ℕ
rows_without rows others = bit_xor rows (bit_and rows others)

-- the prices of the rows that are in state 1 here and not there
abbrev pub excess : GraphOf → ℕ → ℕ → ℕ
excess g rows others = weigh g.folded.row_prices (rows_without rows others)

-- the label of no stop
abbrev pub root_label : Label
root_label = record { visited = 0; rows = 0; cost = pos 0; load = 0; at = 0 }

-- the label of an ending with one more customer in front
abbrev pub extended_by : GraphOf → Label → ℕ → Label
extended_by g label customer = record {
  visited = bit_or (bit_and label.visited (near_at g customer)) (2 ^ customer);
  rows = rows_at g.folded customer label.rows;
  cost = label.cost +ℤ arc_of g.folded customer label.at +ℤ pos (due_at g.folded customer label.rows);
  load = label.load + demand_at g customer;
  at = customer;
}

-- as much of it as arcs and loads tell
abbrev pub outline_of : GraphOf → Label → ℕ → Label
outline_of g label customer = record {
  visited = 0;
  rows = 0;
  cost = label.cost +ℤ arc_of g.folded customer label.at;
  load = label.load + demand_at g customer;
  at = customer;
}

-- what a label's numbers may be
pub record IsLabelOf (g : GraphOf) (label : Label) : Type 0 where
  pub place : label.at < g.folded.places
  pub light : label.load ≤ g.capacity
  pub small : unsigned_abs label.cost ≤ (MAX_ARC_PRICE + MAX_ROW_CHARGE) * label.load

-- a customer whom the label doesn't remember, whose demand the truck has room for, and from whom the arc is alive
pub record MayExtend (g : GraphOf) (label : Label) (customer : ℕ) : Type 0 where
  pub some : 1 ≤ customer
  pub place : customer < g.folded.places
  pub fresh : bit_at label.visited customer ≡ 0
  pub light : label.load + demand_at g customer ≤ g.capacity
  pub alive : Follows g customer label.at

-- The label is no worse than the ending in any resource: it begins at the same customer, carries no more, remembers none but stops of the
-- ending, and costs no more, even if it pays for each row that is in state 1 at the label and not at the ending.
pub record StandsFor (g : GraphOf) (label : Label) (ending : List ℕ) : Type 0 where
  pub at : label.at ≡ first_of ending
  pub load : label.load ≤ load_in_units g ending
  pub visited : (c : ℕ) → bit_at label.visited c ≡ 1 → Contains ending c
  pub cost : (label.cost +ℤ pos (excess g label.rows (rows_of g.folded ending))) ≤ℤ home_cost g.folded ending

-- the same between labels
pub record Dominates (g : GraphOf) (label other : Label) : Type 0 where
  pub at : label.at ≡ other.at
  pub load : label.load ≤ other.load
  pub visited : (c : ℕ) → bit_at label.visited c ≤ bit_at other.visited c
  pub cost : (label.cost +ℤ pos (excess g label.rows other.rows)) ≤ℤ other.cost

-- the labels at a place
abbrev pub pile_at : List (List Label) → ℕ → List Label
pile_at piles at = slice_index_or piles at []

-- the label stands for no ending of a cheap route
abbrev pub IsBeyondGap : GraphOf → ℤ → Label → Type 0
IsBeyondGap g gap label = (beginning ending : List ℕ) → IsCheap g gap (joined beginning ending) → StandsFor g label ending → ⊥

-- each ending of a cheap route, but for the empty one, has a label that stands for it, among the labels of its first customer
abbrev pub IsClosed : GraphOf → ℤ → List (List Label) → Type 0
IsClosed g gap kept = (beginning ending : List ℕ) → IsCheap g gap (joined beginning ending) → ending ≢ []
    → (label : Label) × Contains (pile_at kept (first_of ending)) label × StandsFor g label ending
