use Rattle.vrp_model.proofs.TwoWords.{counted_words}
use Rattle.vrp_model.proofs.customers.customer_set.CustomerSet.len.Goals as goal

pub returns : goal.returns
returns c = counted_words c.self.inside.high c.self.inside.low c.args.self c.self.invariant.1 c.self.view_is
