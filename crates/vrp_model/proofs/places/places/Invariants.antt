use Rattle.vrp_model.specs.Inner.Places.{ArePlaces}
use Rattle.vrp_model.proofs.places.places.Given as goal

abbrev pub invariant-loop-index : goal.invariant-loop-index
invariant-loop-index l = ArePlaces l.depots l.depot l.index l.places.items
