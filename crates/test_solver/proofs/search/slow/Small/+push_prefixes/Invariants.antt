use Rattle.test_solver.proofs.search.slow.Small.+push_prefixes.Given as goal

abbrev pub decreases-push_prefixes : goal.decreases-push_prefixes
decreases-push_prefixes g l = l.more
