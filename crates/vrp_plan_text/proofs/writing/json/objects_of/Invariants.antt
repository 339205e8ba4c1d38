use Rattle.std.proofs.Common.{take}
use Rattle.std.specs.Prelude.{map}
use Rattle.serde_json.specs.View.{view}
use Rattle.vrp_plan_text.specs.Inner.Routes.{AreRoutes}
use Rattle.vrp_plan_text.proofs.writing.json.objects_of.Given as goal

abbrev pub invariant-loop-index : goal.invariant-loop-index
invariant-loop-index l = AreRoutes l.instance (take l.index l.plan.routes) (map view l.routes.items)
