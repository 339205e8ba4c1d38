use Rattle.std.proofs.Common.{◌≡◌, ◌*◌, length}
use Rattle.vrp_model.proofs.near.nearest_customers.Given as goal

abbrev pub invariant-loop-place : goal.invariant-loop-place
invariant-loop-place l = length l.near.items ≡ l.place * l.size
