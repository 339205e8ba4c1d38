use Rattle.vrp_model.proofs.TwoWords.{rank_of_high, rank_of_low}
use Rattle.vrp_model.proofs.customers.customer_set.CustomerSet.rank.Goals as goal

pub returns-then-customer-lt128 : goal.returns-then-customer-lt128
returns-then-customer-lt128 c = rank_of_low c.self.inside.high c.self.inside.low c.args.self c.args.customer c.self.invariant.1 c.self.view_is c.if-customer-lt128.true

pub returns-else-customer-lt128 : goal.returns-else-customer-lt128
returns-else-customer-lt128 c = rank_of_high c.self.inside.high c.self.inside.low c.args.self c.args.customer c.self.invariant.1 c.self.view_is c.if-customer-lt128.false c.requires
