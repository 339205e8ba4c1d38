use Rattle.std.proofs.Common.{◌≡◌, ◌+◌, ◌-◌, ◌*◌, vec_len}
use Rattle.vrp_model.specs.Inner.Listing.{IsFilled}
use Rattle.vrp_model.proofs.matrix.square.Given as goal

abbrev pub invariant-loop-line : goal.invariant-loop-line
invariant-loop-line l = record {
  len : vec_len l.square ≡ l.nodes * l.nodes;
  filled : IsFilled l.layout l.nodes l.entries l.square.items l.next (l.line - 1) (l.nodes + 1);
}
