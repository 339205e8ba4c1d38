use Rattle.std.proofs.Common.{arith}
use Rattle.std.proofs.lemmas.Grind.{common_steps}
use Rattle.std.proofs.lemmas.Int.{ints}
use Rattle.vrp_bound_prices.proofs.prices.are_moderate.Goals as goal

pub returns-then-price_at-most-clause-unlawful : goal.returns-then-price_at-most-clause-unlawful
returns-then-price_at-most-clause-unlawful c = grind (ints, arith, common_steps)
