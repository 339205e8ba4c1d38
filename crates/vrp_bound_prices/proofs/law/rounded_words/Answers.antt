use Rattle.vrp_bound_prices.proofs.Rounded.{prefix_rounded, lawful_rounded}
use Rattle.vrp_bound_prices.proofs.law.rounded_words.Goals as goal

pub returns-clause-words : goal.returns-clause-words
returns-clause-words c = lawful_rounded

pub returns-clause-prefixes : goal.returns-clause-prefixes
returns-clause-prefixes c = prefix_rounded
