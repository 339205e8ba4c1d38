use Rattle.std.proofs.Common.{◌≡◌, ◌++◌, drop, take}
use Rattle.vrp_routes.specs.Level.{sequences}
use Rattle.vrp_routes.proofs.sequences.Sequences.push_level.Given as goal

-- the sequences of the labels so far were added
abbrev pub invariant-loop-label : goal.invariant-loop-label
invariant-loop-label g l = l.self ≡ l.fn.self ++ sequences (drop l.start l.fn.self) (take l.label-index l.labels)
