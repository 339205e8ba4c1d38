use Rattle.std.proofs.Common.{◌≡◌}
use Rattle.vrp_bound_prices.proofs.ascent.rounds.Rounds.ascend.Given as goal

abbrev pub invariant-loop : goal.invariant-loop
invariant-loop g l = l.self.instance ≡ l.initial.self.instance
