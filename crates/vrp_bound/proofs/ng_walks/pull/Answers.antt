use Rattle.std.proofs.Common.{◌+◌, sym, subst, arith}
use Rattle.vrp_bound.specs.Inner.NgCells.{ArePulled}
use Rattle.vrp_bound.proofs.PulledRows.{more_pulled, skipped_pull}
use Rattle.vrp_bound.proofs.ng_walks.pull.Goals.{else-to-row, then-to-row}
use Rattle.vrp_bound.proofs.ng_walks.pull.Goals as goal

pub loop-ng_set-preserved : goal.loop-ng_set-preserved
loop-ng_set-preserved c =
    let k = c.loop-ng_set.ng_set in
    elim c.if-to-row.branch [
      | then-to-row w ↦
          subst (ArePulled c.args.weight (k + 1) c.args.behind.now c.args.before.now c.args.row.now) (sym w.row-is)
          (more_pulled c.args.weight k c.from-to.result w.min.result c.args.behind.now c.args.before.now c.args.row.now c.loop-ng_set.row c.from-to.ensures (omega (arith, w.if-to-row.true, c.loop-ng_set.invariant.len)) (omega (arith, w.min.ensures)) c.loop-ng_set.invariant)
      | else-to-row w ↦
          subst (ArePulled c.args.weight (k + 1) c.args.behind.now c.args.before.now c.args.row.now) (sym w.row-is)
          (skipped_pull c.args.weight k c.args.behind.now c.args.before.now c.args.row.now c.loop-ng_set.row (omega (arith, w.if-to-row.false, c.from-to.ensures, c.loop-ng_set.invariant.len)) c.loop-ng_set.invariant)
    ]
