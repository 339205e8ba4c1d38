use Rattle.std.proofs.Common.{◌≡◌, map, take}
use Rattle.vrp_canonical.specs.Ordering.{stops_of}
use Rattle.vrp_canonical.specs.Reaching.{routes_at}
use Rattle.vrp_model.specs.Word.{word_of}
use Rattle.vrp_canonical.proofs.ordered.word_at.Given as goal

abbrev pub invariant-loop-at : goal.invariant-loop-at
invariant-loop-at l = l.word.items ≡ word_of (routes_at (map stops_of l.ordered) (take l.at-index l.places))
