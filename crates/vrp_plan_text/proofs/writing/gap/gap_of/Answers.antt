use Rattle.std.proofs.Common.{ap, arith}
use Rattle.std.specs.Option.{option_map}
use Rattle.vrp_plan_text.proofs.writing.gap.gap_of.Goals as goal

pub gap-requires : goal.gap-requires
gap-requires c =
    let plan = c.in-Some-Some.plan.now in
    let lawful = c.requires plan (ap (option_map (λ plan. plan.now)) c.in-Some-Some.is-0) in
    omega (arith, c.cost.ensures, lawful.priced, c.plans_cost_less.ensures c.args.instance.now plan.routes c.customers-customers.ensures.problem lawful.lawful)
