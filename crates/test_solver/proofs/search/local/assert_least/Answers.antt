use Rattle.test_solver.proofs.search.local.assert_least.Goals as goal

pub returns : goal.returns
returns g c = c.least.ensures.serves c.args.instance.now c.requires
