use Rattle.std.proofs.Common.{bit_and, arith}
use Rattle.std.proofs.lemmas.Nat.{and_le_r, xor_lt}
use Rattle.vrp_model.proofs.TwoWords.{without_words}
use Rattle.vrp_model.proofs.customers.customer_set.CustomerSet.difference.Goals as goal

pub invariant_of-result : goal.invariant_of-result
invariant_of-result c = (
  xor_lt 128 c.self.inside.high (bit_and c.self.inside.high c.other.inside.high) c.self.invariant.0 (omega (arith, and_le_r c.self.inside.high c.other.inside.high)),
  xor_lt 128 c.self.inside.low (bit_and c.self.inside.low c.other.inside.low) c.self.invariant.1 (omega (arith, and_le_r c.self.inside.low c.other.inside.low)),
)

pub returns : goal.returns
returns c = without_words c.self.inside.high c.self.inside.low c.other.inside.high c.other.inside.low c.args.self c.args.other c.self.invariant.1 c.other.invariant.1 c.self.view_is c.other.view_is
