use Rattle.std.proofs.Common.{take}
use Rattle.vrp_canonical.proofs.KnownChoices.{Leave}
use Rattle.vrp_canonical.proofs.known.is_choice.Given as goal

abbrev pub invariant-loop-route : goal.invariant-loop-route
invariant-loop-route l = Leave l.part l.fn.rest (take l.route-index l.routes) l.left
