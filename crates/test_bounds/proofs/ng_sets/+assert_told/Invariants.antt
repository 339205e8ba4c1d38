use Rattle.test_bounds.proofs.ng_sets.+assert_told.Given as goal

abbrev pub decreases-assert_told : goal.decreases-assert_told
decreases-assert_told g l = l.more
