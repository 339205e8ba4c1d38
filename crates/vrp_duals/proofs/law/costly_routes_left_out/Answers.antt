use Rattle.vrp_duals.specs.Duals.{pairs_of, turns_of}
use Rattle.vrp_duals.proofs.PricedPlans.{cheap_route, pairs_take_two, turns_take_two}
use Rattle.vrp_duals.proofs.law.costly_routes_left_out.Goals as goal

pub returns-clause-turns : goal.returns-clause-turns
returns-clause-turns c = cheap_route turns_of turns_take_two

pub returns-clause-full : goal.returns-clause-full
returns-clause-full c = cheap_route pairs_of pairs_take_two
