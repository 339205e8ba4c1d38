use Rattle.test_solver.proofs.search.local.offer.Goals as goal

pub returns : goal.returns
returns g c = c.offer.ensures.serves c.args.instance.now c.requires.board c.requires.plan
