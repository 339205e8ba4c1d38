use Rattle.std.proofs.Common.{◌≡◌, take}
use Rattle.vrp_model.specs.Route.{load_of}
use Rattle.vrp_plan_text.proofs.reading.route.NonemptyRoute.load.Given as goal

abbrev pub invariant-loop-stop : goal.invariant-loop-stop
invariant-loop-stop l = l.load ≡ load_of l.instance (take l.stop-index l.stop-items)
