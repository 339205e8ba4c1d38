use Rattle.vrp_partition.proofs.PricedChoices.{priced_choice}
use Rattle.vrp_partition.proofs.law.prices_bound_choices.Goals as goal

pub returns : goal.returns
returns c = priced_choice
