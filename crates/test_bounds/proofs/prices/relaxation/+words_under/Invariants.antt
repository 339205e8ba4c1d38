use Rattle.test_bounds.proofs.prices.relaxation.+words_under.Given as goal

abbrev pub decreases-words_under : goal.decreases-words_under
decreases-words_under g l = l.steps
