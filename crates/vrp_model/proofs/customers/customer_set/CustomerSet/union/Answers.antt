use Rattle.std.proofs.lemmas.Nat.{or_lt}
use Rattle.vrp_model.proofs.TwoWords.{either_words}
use Rattle.vrp_model.proofs.customers.customer_set.CustomerSet.union.Goals as goal

pub invariant_of-result : goal.invariant_of-result
invariant_of-result c = (
  or_lt 128 c.self.inside.high c.other.inside.high c.self.invariant.0 c.other.invariant.0,
  or_lt 128 c.self.inside.low c.other.inside.low c.self.invariant.1 c.other.invariant.1,
)

pub returns : goal.returns
returns c = either_words c.self.inside.high c.self.inside.low c.other.inside.high c.other.inside.low c.args.self c.args.other c.self.invariant.1 c.other.invariant.1 c.self.view_is c.other.view_is
