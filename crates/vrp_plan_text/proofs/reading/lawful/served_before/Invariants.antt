use Rattle.std.proofs.Common.{◌++◌, ℕ, List, take}
use Rattle.vrp_plan_text.specs.Inner.Served.{AreDifferent, Marks}
use Rattle.vrp_plan_text.proofs.reading.lawful.served_before.Given as goal

abbrev pub invariant-loop-stop : goal.invariant-loop-stop
invariant-loop-stop l = (done : List ℕ) → Marks l.initial.served done → AreDifferent done → Marks l.served (done ++ take l.stop-index l.stops) × AreDifferent (done ++ take l.stop-index l.stops)
