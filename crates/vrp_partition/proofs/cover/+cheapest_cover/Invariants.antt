use Rattle.std.proofs.Common.{◌≡◌, ◌<◌, ◌≤◌, take, Contains, List}
use Rattle.std.specs.Int.{bit_at}
use Rattle.vrp_partition.specs.Choice.{IsChoice}
use Rattle.vrp_partition.specs.Covering.{column_set, columns_cost, columns_reduced_cost}
use Rattle.vrp_partition.specs.declared.cover.Column.{Column}
use Rattle.vrp_partition.proofs.cover.+cheapest_cover.Given as goal

abbrev pub decreases-cheapest_cover : goal.decreases-cheapest_cover
decreases-cheapest_cover l = l.budget.now

abbrev pub invariant-loop-column : goal.invariant-loop-column
invariant-loop-column l = record {
  budget : l.budget < l.fn.budget;
  most : l.found ≤ l.node.incumbent;
  least : (column : Column) → Contains (take l.column-index l.columns) column → bit_at column.set l.customer ≡ 1
      → (others : List Column) → IsChoice column_set l.columns l.unserved l.node.trucks others → Contains others column → columns_reduced_cost others ≤ l.gap → l.found ≤ columns_cost others;
  attained : l.found < l.node.incumbent → IsChoice column_set l.columns l.unserved l.node.trucks l.parts.items × (columns_cost l.parts.items ≡ l.found);
}
