use Rattle.std.proofs.Common.{◌≡◌, vec_len}
use Rattle.vrp_model.proofs.customers.all.route_sets.Given as goal

abbrev pub invariant-loop-index : goal.invariant-loop-index
invariant-loop-index l = vec_len l.sets ≡ l.index
