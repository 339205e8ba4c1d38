use Rattle.std.proofs.Common.{◌≡◌, ◌+◌, ◌≤◌, length}
use Rattle.vrp_routes.specs.declared.label.Label.{Label}
use Rattle.vrp_routes.proofs.MergeSteps.{MergesSome}
use Rattle.vrp_routes.proofs.merge.merged.Given as goal

-- the labels before these two are merged
abbrev pub invariant-loop-at : goal.invariant-loop-at
invariant-loop-at g l = record {
  count : l.i + l.j ≡ l._at;
  left : l.i ≤ length l.left;
  right : l.j ≤ length l.right;
  some : (blank : Label g.row.X.Denot) → MergesSome blank l.left l.right l.i l.j l.merged.items;
}
