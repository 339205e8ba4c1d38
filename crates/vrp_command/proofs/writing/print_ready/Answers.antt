use Rattle.vrp_answer.specs.Finding.{told_by}
use Rattle.vrp_command.specs.Inner.Told.{told_outcome}
use Rattle.vrp_command.proofs.Requests.{plan_told}
use Rattle.vrp_command.proofs.writing.print_ready.Goals as goal

pub print_finding-requires : goal.print_finding-requires
print_finding-requires g c =
    let ready = c.args.ready.now in
    plan_told ready.problem.instance (told_outcome c.args.seconds ready.outcome) (told_by c.finding-finding.result) c.requires c.finding-finding.ensures
