use Rattle.vrp_bound_prices.proofs.CutsByTest.{cut_by_test, stands_by_test}
use Rattle.vrp_bound_prices.proofs.law.cuts_by_test.Goals as goal

pub returns-clause-cuts : goal.returns-clause-cuts
returns-clause-cuts c = cut_by_test

pub returns-clause-inside : goal.returns-clause-inside
returns-clause-inside c = stands_by_test
