-- Labels of beginnings, the endings that complete them to cheap routes, and what these add at least.
use Rattle.std.specs.Prelude.{◌≡◌, ◌⊎◌, ◌≤◌, ◌≤ℤ◌, ◌+◌, ◌<◌, ◌^◌, ℕ, ℤ, pos, ◌+ℤ◌, List, bit_and, bit_or}
use Rattle.std.specs.Int.{bit_at}
use Rattle.std.specs.List.{All, Contains}
use Rattle.vrp_duals.specs.Folding.{arc_of, due_at, first_of, home_cost, rows_at, rows_of, weigh}
use Rattle.vrp_labels.specs.Closing.{AreKept}
use Rattle.vrp_labels.specs.Graph.{Follows, GraphOf, demand_at}
use Rattle.vrp_labels.specs.Label.{IsClosed, pile_at}
use Rattle.vrp_labels.specs.Route.{IsCheap, IsEnding, beginning_cost, joined, load_in_units}
use Rattle.vrp_labels.specs.declared.label.Label.{Label}

-- The label is of this beginning. It remembers none but stops of the beginning: all of them, if the look-up is to be sharp.
pub record IsForward (g : GraphOf) (beginning : List ℕ) (forward : Label) : Type 0 where
  pub at : forward.at ≡ first_of beginning
  pub load : forward.load ≡ load_in_units g beginning
  pub rows : forward.rows ≡ rows_of g.folded beginning
  pub visited : (c : ℕ) → bit_at forward.visited c ≡ 1 → Contains beginning c
  pub cost : forward.cost ≡ beginning_cost g.folded beginning

-- the label of a beginning with one more customer
abbrev pub advanced_by : GraphOf → Label → ℕ → Label
advanced_by g forward customer = record {
  visited = bit_or forward.visited (2 ^ customer);
  rows = rows_at g.folded customer forward.rows;
  cost = forward.cost +ℤ arc_of g.folded forward.at customer +ℤ pos (due_at g.folded customer forward.rows);
  load = forward.load + demand_at g customer;
  at = customer;
}

-- a customer whom the beginning doesn't have, whose demand the truck has room for, and to whom the arc is alive
pub record MayAdvance (g : GraphOf) (forward : Label) (customer : ℕ) : Type 0 where
  pub some : 1 ≤ customer
  pub place : customer < g.folded.places
  pub fresh : bit_at forward.visited customer ≡ 0
  pub light : forward.load + demand_at g customer ≤ g.capacity
  pub alive : Follows g forward.at customer

-- an ending that may follow
pub record IsCompletion (g : GraphOf) (forward : Label) (ending : List ℕ) : Type 0 where
  pub is_ending : IsEnding g ending
  pub light : load_in_units g ending + forward.load ≤ g.capacity
  pub apart : (c : ℕ) → Contains ending c → bit_at forward.visited c ≡ 0
  pub alive : Follows g forward.at (first_of ending)

-- what it adds: the arc between, the ending, and the prices of the rows that are in state 1 on both sides
abbrev pub completion_cost : GraphOf → Label → List ℕ → ℤ
completion_cost g forward ending =
    arc_of g.folded forward.at (first_of ending) +ℤ home_cost g.folded ending +ℤ pos (weigh g.folded.row_prices (bit_and forward.rows (rows_of g.folded ending)))

-- no completion to a cheap route adds less
abbrev pub BoundsCompletions : GraphOf → ℤ → Label → ℤ → Type 0
BoundsCompletions g gap forward least =
    (beginning ending : List ℕ) → IsForward g beginning forward → IsCheap g gap (joined beginning ending) → least ≤ℤ completion_cost g forward ending

-- a label of endings that remembers no customer of the beginning, and whose load the truck has room for
pub record CanJoin (g : GraphOf) (forward label : Label) : Type 0 where
  pub apart : bit_and label.visited forward.visited ≡ 0
  pub light : label.load + forward.load ≤ g.capacity

-- what it adds
abbrev pub join_cost : GraphOf → Label → Label → ℤ
join_cost g forward label =
    arc_of g.folded forward.at label.at +ℤ label.cost +ℤ pos (weigh g.folded.row_prices (bit_and forward.rows label.rows))

-- no label that can join adds less
abbrev pub IsLeastJoin : GraphOf → Label → List Label → ℤ → Type 0
IsLeastJoin g forward labels least = All (λ label. CanJoin g forward label → least ≤ℤ join_cost g forward label) labels

-- one of these labels adds so much
abbrev pub IsJoinCost : GraphOf → Label → List Label → ℤ → Type 0
IsJoinCost g forward labels cost = (label : Label) × Contains labels label × CanJoin g forward label × (cost ≡ join_cost g forward label)

-- it can join, and the whole costs no more than the gap
pub record Meets (g : GraphOf) (gap : ℤ) (forward label : Label) : Type 0 where
  pub fits : CanJoin g forward label
  pub cheap : (forward.cost +ℤ join_cost g forward label) ≤ℤ gap

-- a graph, what a cheap route costs at most, and closed labels
pub record CompletionsOf : Type 0 where
  pub graph : GraphOf
  pub gap : ℤ
  pub kept : List (List Label)

-- the labels were closed in the graph for the gap
pub record AreCompletions (s : CompletionsOf) : Type 0 where
  pub are_kept : AreKept s.graph s.kept
  pub closed : IsClosed s.graph s.gap s.kept

-- a place that may follow the beginning, and from which some label meets it, or the depot, if the whole is cheap
abbrev pub Links : CompletionsOf → Label → ℕ → Type 0
Links s forward j = Follows s.graph forward.at j × ((j ≡ 0) × ((forward.cost +ℤ arc_of s.graph.folded forward.at 0) ≤ℤ s.gap)
    ⊎ (1 ≤ j) × ((label : Label) × Contains (pile_at s.kept j) label × Meets s.graph s.gap forward label))

-- the arc to the depot, or one of the labels at a place that may follow, adds so much
abbrev pub IsLinkCost : CompletionsOf → Label → ℤ → Type 0
IsLinkCost s forward cost = (Follows s.graph forward.at 0 × (cost ≡ arc_of s.graph.folded forward.at 0))
    ⊎ ((place : ℕ) × Follows s.graph forward.at place × IsJoinCost s.graph forward (pile_at s.kept place) cost)
