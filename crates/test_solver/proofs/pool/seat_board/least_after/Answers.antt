use Rattle.test_solver.proofs.pool.seat_board.least_after.Goals as goal

pub offer-offered-requires : goal.offer-offered-requires
offer-offered-requires g c = (c.args.instance.now, c.requires.serves, c.requires.plan)

pub returns : goal.returns
returns g c = record { serves = c.least.ensures.serves c.args.instance.now (c.offer-offered.ensures.serves c.args.instance.now c.requires.serves c.requires.plan) }
