use Rattle.vrp_sharing.proofs.CostSteps.{opens}
use Rattle.vrp_sharing.proofs.cost_word.CostWord.new.Goals as goal

pub of_words-requires : goal.of_words-requires
of_words-requires c = opens c.args.opening c.args.count
