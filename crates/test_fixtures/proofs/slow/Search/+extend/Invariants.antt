use Rattle.test_fixtures.proofs.slow.Search.+extend.Given as goal

abbrev pub decreases-extend : goal.decreases-extend
decreases-extend l = l.symbols
