use Rattle.vrp_model.specs.Inner.Listing.{IsFilled}
use Rattle.vrp_model.proofs.matrix.fill_line.Given as goal

abbrev pub invariant-loop-across : goal.invariant-loop-across
invariant-loop-across l = IsFilled l.layout l.nodes l.entries l.square l.next l.line l.across
