use Rattle.vrp_plan_text.proofs.Places.{stops_within}
use Rattle.vrp_command.proofs.form.text_of.Goals as goal

pub report_text-requires : goal.report_text-requires
report_text-requires c = λ plan is k d lt. (stops_within c.args.instance.now plan.routes c.customers-customers.ensures.problem (c.requires plan is).lawful k d lt).within
