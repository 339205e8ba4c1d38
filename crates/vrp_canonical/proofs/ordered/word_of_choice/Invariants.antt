use Rattle.std.proofs.Common.{map, take}
use Rattle.std.specs.List.{All, Contains}
use Rattle.vrp_canonical.specs.Ordering.{IsWordOf, stops_in}
use Rattle.vrp_canonical.proofs.ordered.word_of_choice.Given as goal

abbrev pub invariant-loop-chosen : goal.invariant-loop-chosen
invariant-loop-chosen l = All (Contains l.routes) l.choice → IsWordOf (map stops_in l.pool) l.routes (take l.chosen-index l.choice) l.word.items
