use Rattle.vrp_model.proofs.TwoWords.{high_power}
use Rattle.vrp_model.proofs.customers.customer_set.CustomerSet.only.Goals as goal

pub returns-else-customer-lt128 : goal.returns-else-customer-lt128
returns-else-customer-lt128 c = high_power c.args.customer c.if-customer-lt128.false c.requires
