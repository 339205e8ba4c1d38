use Rattle.vrp_model.specs.Grid.{entry_at}
use Rattle.vrp_model.proofs.BoundedLists.{bounded_push}
use Rattle.vrp_model.proofs.MadeLists.{row_all, row_push}
use Rattle.vrp_model.proofs.places.push_row.Goals as goal

pub loop-to-preserved : goal.loop-to-preserved
loop-to-preserved c = (
  row_push (entry_at c.args.weights.now c.args.from) c.args.places.now c.args.entries.now.items c.loop-to.entries.items c.push.new.self.items c.loop-to.to-index c.at.result c.loop-to-test.true c.loop-to.invariant.0 c.in_ok-push.ensures.items c.at.ensures.value,
  λ k. rw c.in_ok-push.ensures.items (bounded_push _ _ _ c.loop-to.invariant.1 c.at.ensures.small k),
)

pub returns-clause-row : goal.returns-clause-row
returns-clause-row c =
    row_all (entry_at c.args.weights.now c.args.from) c.args.places.now c.args.entries.now.items c.loop-to.entries.items c.loop-to.to-index c.loop-to-test.false c.loop-to.invariant.0
