use Rattle.std.proofs.Common.{◌≡◌, ◌+◌, ◌++◌, length}
use Rattle.std.specs.List.{flat_map}
use Rattle.vrp_sharing.proofs.pile.settle.Given as goal

abbrev pub invariant-loop-thief : goal.invariant-loop-thief
invariant-loop-thief l = record {
  pile : l.owner.pile ≡ l.fn.owner.pile;
  parts : l.owner.parts ≡ l.fn.owner.parts + length l.yielded;
  put : l.owner.put ≡ l.fn.owner.put;
  drawn : l.owner.drawn ≡ l.fn.owner.drawn ++ flat_map (λ thief. thief.drawn) l.yielded;
}
