use Rattle.vrp_model.proofs.TwoWords.{both_words}
use Rattle.vrp_model.proofs.customers.customer_set.CustomerSet.intersection.Goals as goal

pub returns : goal.returns
returns c = both_words c.self.inside.high c.self.inside.low c.other.inside.high c.other.inside.low c.args.self c.args.other c.self.invariant.1 c.other.invariant.1 c.self.view_is c.other.view_is
