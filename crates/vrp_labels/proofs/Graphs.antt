-- What is known of a graph, and when a label dominates another.
use Rattle.std.proofs.Common.{◌≡◌, ℕ, ℤ, pos, ◌+ℤ◌, ◌≤ℤ◌, ◌≤◌, ap, ◌∙◌, bit_and}
use Rattle.vrp_duals.specs.Folding.{weigh}
use Rattle.vrp_duals.proofs.RowBits.{part_bits}
use Rattle.vrp_labels.specs.Graph.{GraphOf}
use Rattle.vrp_labels.specs.Label.{Dominates, excess, rows_without}
use Rattle.vrp_labels.specs.declared.label.Label.{Label}
use Rattle.vrp_labels.proofs.RowExcess.{weigh_none}

pub dominates_by : (g : GraphOf) (label other : Label) → label.at ≡ other.at → label.load ≤ other.load → bit_and label.visited other.visited ≡ label.visited
    → (label.cost +ℤ pos (excess g label.rows other.rows)) ≤ℤ other.cost → Dominates g label other
dominates_by g label other at load part cost = record { at = at; load = load; visited = part_bits label.visited other.visited part; cost = cost }

-- with no row in excess, nothing is paid for rows
pub no_excess : (g : GraphOf) (a b : ℕ) → rows_without a b ≡ 0 → excess g a b ≡ 0
no_excess g a b none = ap (weigh g.folded.row_prices) none ∙ weigh_none g.folded.row_prices

-- labels with the same numbers are the same
pub same_label : (v r l a v' r' l' a' : ℕ) (c c' : ℤ) → v ≡ v' → r ≡ r' → c ≡ c' → l ≡ l' → a ≡ a'
    → ◌≡◌ {A = Label} (record { visited = v; rows = r; cost = c; load = l; at = a }) (record { visited = v'; rows = r'; cost = c'; load = l'; at = a' })
same_label v r l a v' r' l' a' c c' ve re ce le ae = cc
