use Rattle.std.proofs.Common.{◌∙◌}
use Rattle.vrp_sharing.proofs.KeptPlans.{opened}
use Rattle.vrp_sharing.proofs.book.Book.open.Goals as goal

pub invariant_of-result : goal.invariant_of-result
invariant_of-result c = opened c.args.plan c.in_ok-opening.opening c.new.result.items (c.in_ok-opening.ensures ∙ c.as_ref.ensures.value) c.new.ensures.items
