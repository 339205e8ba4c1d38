use Rattle.std.proofs.Common.{◌≡◌, take}
use Rattle.vrp_model.specs.Problem.{customers}
use Rattle.vrp_model.specs.CustomerSet.{set_of}
use Rattle.vrp_model.proofs.customers.all.all_customers.Given as goal

abbrev pub invariant-loop-index : goal.invariant-loop-index
invariant-loop-index l = l.set ≡ set_of (take l.index (customers l.instance))
