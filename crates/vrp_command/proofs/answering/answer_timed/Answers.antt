use Rattle.std.proofs.Common.{rules, Bool, IfOk, subst}
use Rattle.vrp_command.specs.Inner.Written.{IsWritten}
use Rattle.vrp_command.proofs.answering.answer_timed.Goals as goal

pub returns-clause-printed : goal.returns-clause-printed
returns-clause-printed g c =
    let left = g.R.Read.remaining in
    let held = g.W.Write.contents in
    subst
    (λ (may_stop : Bool). IfOk c.answer_request-outcome.result (IsWritten {S = g.row.S.Denot} c.args.request may_stop (λ file. g.S.Read.remaining file) c.args.start (left c.args.input.now) (left c.answer_request-outcome.new.input) (held c.args.output.now) (held c.answer_request-outcome.new.output)))
    (search rules) c.answer_request-outcome.ensures.printed
