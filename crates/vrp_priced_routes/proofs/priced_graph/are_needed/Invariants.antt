use Rattle.std.proofs.Common.{ℕ, ◌<◌, get_or}
use Rattle.vrp_duals.specs.Duals.{IsNeededFor}
use Rattle.vrp_duals.specs.declared.rows.EntryRow.{EntryRow}
use Rattle.vrp_priced_routes.proofs.priced_graph.are_needed.Given as goal

abbrev pub invariant-loop-index : goal.invariant-loop-index
invariant-loop-index l = (k : ℕ) (d : EntryRow) → k < l.index → IsNeededFor l.instance l.range.least_routes l.range.most_routes (get_or l.entries k d)
