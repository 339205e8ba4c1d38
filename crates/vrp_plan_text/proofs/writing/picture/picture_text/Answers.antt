use Rattle.std.proofs.Common.{ap}
use Rattle.std.specs.Option.{option_map}
use Rattle.vrp_plan_text.proofs.Places.{stops_within}
use Rattle.vrp_plan_text.proofs.writing.picture.picture_text.Goals as goal

pub tracks-requires : goal.tracks-requires
tracks-requires c =
    let plan = c.in-Some.plan.now in
    stops_within c.args.instance.now plan.routes c.customers-customers.ensures.problem (c.requires plan (ap (option_map (λ plan. plan.now)) c.in-Some.is)).lawful
