use Rattle.vrp_solver.proofs.Teams.{helpers_worked, lead_worked}
use Rattle.vrp_solver.proofs.team.run_workers.Goals as goal

pub returns-then-is_empty-clause-team : goal.returns-then-is_empty-clause-team
returns-then-is_empty-clause-team g c =
    lead_worked c.args.shared.now c.args.lead.board.register c.args.lead c.in_ok-led.field-0 c.args.helpers.items c.requires.team c.in_ok-led.ensures.worked c.in_ok-led.ensures.searched

pub returns-clause-team : goal.returns-clause-team
returns-clause-team g c =
    let s = c.args.shared.now in
    let lead = c.args.lead in
    let register = lead.board.register in
    let others = c.join-lead.result.1.items in
    let helped = helpers_worked s register lead c.args.helpers.items others c.requires.team c.requires.fine c.join-lead.ensures.second in
    let first = rw c.in_ok-lead.was at c.join-lead.ensures.first in
    lead_worked s register lead c.in_ok-lead.field-0 others helped first.0 first.1
