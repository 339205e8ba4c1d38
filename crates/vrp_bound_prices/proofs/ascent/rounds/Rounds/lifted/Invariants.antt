use Rattle.std.proofs.Common.{◌≡◌, vec_len}
use Rattle.vrp_bound_prices.proofs.ascent.rounds.Rounds.lifted.Given as goal

abbrev pub invariant-loop-place : goal.invariant-loop-place
invariant-loop-place l = (vec_len l.lifted ≡ l.place) × (l.self.instance ≡ l.initial.self.instance)
