use Rattle.std.proofs.Common.{◌≡◌, take, map}
use Rattle.vrp_model.specs.Request.{node_demand}
use Rattle.vrp_model.proofs.places.demands_of.Given as goal

abbrev pub invariant-loop-node : goal.invariant-loop-node
invariant-loop-node l = l.found.items ≡ map (node_demand l.demands) (take l.node-index l.places)
