use Rattle.vrp_command.proofs.Starts.{begins_stated, begins_without}
use Rattle.vrp_command.proofs.start.start_plan.Goals as goal

pub returns-in_ok-plan_in-in-Some-Opened-clause-begins : goal.returns-in_ok-plan_in-in-Some-Opened-clause-begins
returns-in_ok-plan_in-in-Some-Opened-clause-begins g c =
    begins_stated c.args.instance.now (λ file. g.S.Read.remaining file) c.args.start c.in-Some-Opened.file _ (cc) c.in_ok-plan_in-in-Some-Opened.ensures.gives

pub returns-in-None-clause-begins : goal.returns-in-None-clause-begins
returns-in-None-clause-begins g c = begins_without c.args.instance.now (λ file. g.S.Read.remaining file) c.args.start (cc)
