use Rattle.test_bounds.proofs.bound.slow_walks.+every_walk.Given as goal

abbrev pub decreases-every_walk : goal.decreases-every_walk
decreases-every_walk l = l.steps
