use Rattle.vrp_model.proofs.TwoWords.{first_high, first_low}
use Rattle.vrp_model.proofs.customers.customer_set.CustomerSet.first.Goals as goal

pub returns-then-self-ne0-clause-first : goal.returns-then-self-ne0-clause-first
returns-then-self-ne0-clause-first c = first_low c.self.inside.high c.self.inside.low c.args.self c.self.invariant.1 c.if-self-ne0.true c.self.view_is

pub returns-then-self-ne0-2-clause-first : goal.returns-then-self-ne0-2-clause-first
returns-then-self-ne0-2-clause-first c = first_high c.self.inside.high c.self.inside.low c.args.self c.self.invariant.0 c.if-self-ne0.false c.if-self-ne0-2.true c.self.view_is
