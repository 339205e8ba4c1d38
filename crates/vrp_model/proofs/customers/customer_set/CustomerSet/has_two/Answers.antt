use Rattle.vrp_model.proofs.TwoWords.{two_of_both, two_of_high}
use Rattle.vrp_model.proofs.customers.customer_set.CustomerSet.has_two.Goals as goal

pub returns-then-self-eq0 : goal.returns-then-self-eq0
returns-then-self-eq0 c = two_of_high c.self.inside.high c.self.inside.low c.args.self c.self.invariant.1 c.if-self-eq0.true c.self.view_is

pub returns-else-self-eq0-2 : goal.returns-else-self-eq0-2
returns-else-self-eq0-2 c = two_of_both c.self.inside.high c.self.inside.low c.args.self c.self.invariant.1 c.if-self-eq0.false c.if-self-eq0-2.false c.self.view_is
