use Rattle.vrp_command.proofs.Lines.{opened_refuses, opened_tells}
use Rattle.vrp_command.proofs.program.run_opened.Goals as goal

pub returns-clause-told : goal.returns-clause-told
returns-clause-told g c = λ telling.
    let left = g.R.Read.remaining in
    let held = g.W.Write.contents in
    opened_tells c.args.request (g.G.Gate.may_stop c.args.resources.now.gate.now) _ c.named_start-start.result (left c.args.input.now) (left c.run_request-outcome.new.input) (held c.args.output.now) (held c.run_request-outcome.new.output)
    c.run_request-outcome.result c.end.result c.end.ensures c.requires.plain c.named_start-start.ensures c.run_request-outcome.ensures.printed telling

pub returns-clause-silent : goal.returns-clause-silent
returns-clause-silent g c = λ refusing.
    let held = g.W.Write.contents in
    opened_refuses (held c.args.output.now) (held c.run_request-outcome.new.output) c.run_request-outcome.result c.end.result c.end.ensures c.run_request-outcome.ensures.silent refusing
