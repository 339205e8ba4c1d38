use Rattle.vrp_labels.proofs.BandLookUp.{NoneDownTo}
use Rattle.vrp_labels.proofs.lookup.meets_in_bands.Given as goal

abbrev pub invariant-loop-k : goal.invariant-loop-k
invariant-loop-k l = NoneDownTo l.graph l.gap l.forward l.pile l.shift l.top l.k
