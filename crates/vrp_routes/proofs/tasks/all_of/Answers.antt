use Rattle.std.proofs.Common.{arith}
use Rattle.std.proofs.lemmas.List.{nil_from_length}
use Rattle.vrp_routes.proofs.SharesSteps.{all_values, one_value_more}
use Rattle.vrp_routes.proofs.tasks.all_of.Goals as goal

pub loop-result-preserved : goal.loop-result-preserved
loop-result-preserved g c =
    one_value_more c.args.results.items c.loop-result.result-iterator.rest.items c.next.new.self.rest.items c.loop-result.all.items c.push.new.self.items c.in-Some.result c.in_ok-result.field-0
    c.loop-result.invariant c.in-Some.ensures.steps.0 c.in_ok-result.was c.in_ok-push.ensures.items

pub returns : goal.returns
returns g c =
    let rest = c.loop-result.result-iterator.rest in
    all_values c.args.results.items rest.items c.loop-result.all.items c.loop-result.invariant (nil_from_length rest.items (omega (arith, c.in-None.ensures.steps.0, rest.ok)))
