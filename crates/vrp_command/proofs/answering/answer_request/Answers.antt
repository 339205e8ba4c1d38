use Rattle.vrp_command.specs.Inner.Ready.{plan_in}
use Rattle.vrp_command.proofs.Requests.{fault_same, prints_part_of_ready, prints_ready}
use Rattle.vrp_command.proofs.answering.answer_request.Goals as goal

pub returns-in-Ok-written-clause-printed : goal.returns-in-Ok-written-clause-printed
returns-in-Ok-written-clause-printed g c =
    let left = g.R.Read.remaining in
    let held = g.W.Write.contents in
    let may_stop = g.G.Gate.may_stop c.args.resources.now.gate.now in
    let ready = c.in-Ok.ready in
    let is = c.in-Ok.ensures.ready in
    prints_ready c.args.request may_stop (λ file. g.S.Read.remaining file) c.args.start (left c.args.input.now) (left c.solve_request.new.input) (held c.args.output.now) (held c.write_answer-written.new.output) ready is
    c.in-Ok-written.status (c.in-Ok-written.ensures.printed may_stop (plan_in ready.start) is.on.found)

pub returns-in-Err-written-clause-begun : goal.returns-in-Err-written-clause-begun
returns-in-Err-written-clause-begun g c = λ failed.
    let left = g.R.Read.remaining in
    let held = g.W.Write.contents in
    let may_stop = g.G.Gate.may_stop c.args.resources.now.gate.now in
    let ready = c.in-Ok.ready in
    let is = c.in-Ok.ensures.ready in
    prints_part_of_ready c.args.request may_stop (λ file. g.S.Read.remaining file) c.args.start (left c.args.input.now) (left c.solve_request.new.input) (held c.args.output.now) (held c.write_answer-written.new.output) ready is
    (c.in-Err-written.ensures.begun may_stop (plan_in ready.start) is.on.found (fault_same failed))
