use Rattle.vrp_bound_prices.proofs.relaxation.Relaxation.lower_bound_by.Goals as goal

pub quotient-requires-clause-some : goal.quotient-requires-clause-some
quotient-requires-clause-some c = c.self.invariant.some_scale
