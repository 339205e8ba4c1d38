use Rattle.std.proofs.Common.{◌-◌, ap}
use Rattle.std.specs.Prelude.{slice_index}
use Rattle.vrp_model.specs.Request.{node_demand}
use Rattle.vrp_model.proofs.MadeLists.{map_all, map_push}
use Rattle.vrp_model.proofs.WeightPlaces.{node_within}
use Rattle.vrp_model.proofs.places.demands_of.Goals as goal

pub overflow_sub-from : goal.overflow_sub-from
overflow_sub-from c = rw c.from.ensures (c.requires.from_one c.loop-node.node-index c.loop-node-test.true)

pub bounds-demands-from : goal.bounds-demands-from
bounds-demands-from c =
    node_within _ _ _ c.from.ensures (c.requires.from_one c.loop-node.node-index c.loop-node-test.true) (c.requires.within c.loop-node.node-index c.loop-node-test.true)

pub loop-node-preserved : goal.loop-node-preserved
loop-node-preserved c =
    map_push (node_demand c.args.demands.now) c.args.places.now c.loop-node.found.items c.push.new.self.items c.loop-node.node-index _ c.loop-node-test.true c.loop-node.invariant c.in_ok-push.ensures.items (ap (λ k. slice_index c.args.demands.now (k - 1)) c.from.ensures)

pub returns : goal.returns
returns c =
    map_all (node_demand c.args.demands.now) c.args.places.now c.loop-node.found.items c.loop-node.node-index c.loop-node-test.false c.loop-node.invariant
