use Rattle.std.proofs.Common.{take}
use Rattle.vrp_model.specs.Inner.Marks.{AreMarks}
use Rattle.vrp_model.proofs.depots.Depots.new.Given as goal

abbrev pub invariant-loop-depot : goal.invariant-loop-depot
invariant-loop-depot l = AreMarks (take l.depot-index l.listed) l.marks
