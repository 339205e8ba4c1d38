use Rattle.std.proofs.Common.{◌<◌}
use Rattle.vrp_simplex.proofs.subset_rows.places_of.Given as goal

abbrev pub invariant-loop-customer : goal.invariant-loop-customer
invariant-loop-customer l = l.most < 256
