use Rattle.std.proofs.Common.{rules}
use Rattle.vrp_plan_text.proofs.LineLemmas.{no_colon, route_said, wrong_route}
use Rattle.vrp_plan_text.proofs.reading.line.route_line.Goals as goal

pub returns-in_default : goal.returns-in_default
returns-in_default c = no_colon c.args.text.now c.in_default.ensures

pub returns-in-Ok : goal.returns-in-Ok
returns-in-Ok c =
    route_said c.args.text.now c.in-Some.heading.now c.in-Some.stops.now c.in-Some-number_token.digits.now c.of.result c.of-in-Ok.result c.in-Ok.number _ c.in-Some.ensures c.of.ensures c.of-in-Ok.ensures c.in-Some-number_token.ensures
    c.in-Ok.ensures.value (search rules)

pub returns-in-Err : goal.returns-in-Err
returns-in-Err c =
    wrong_route c.args.text.now c.in-Some.heading.now c.in-Some.stops.now c.in-Some-number_token.digits.now c.of.result c.in-Err.error c.in-Some.ensures c.of.ensures c.in-Some-number_token.ensures c.in-Err.ensures.value
