use Rattle.std.proofs.Common.{arith}
use Rattle.std.proofs.lemmas.Grind.{elements, common_steps}
use Rattle.std.proofs.lemmas.Int.{ints}
use Rattle.vrp_plan_text.proofs.Documents.{next_route}
use Rattle.vrp_plan_text.proofs.writing.json.objects_of.Goals as goal

pub loop-index-preserved : goal.loop-index-preserved
loop-index-preserved c =
    next_route c.args.instance.now c.args.plan.now.routes c.loop-index.index c.route.result.now c.route.ensures c.loop-index.routes.items c.in_ok-route_of.field-0 c.loop-index.invariant c.in_ok-route_of.ensures
    c.push.new.self.items c.in_ok-push.ensures.items

pub route_of-requires : goal.route_of-requires
route_of-requires c = grind (ints, arith, elements)

pub returns : goal.returns
returns c = grind (ints, arith, common_steps)
