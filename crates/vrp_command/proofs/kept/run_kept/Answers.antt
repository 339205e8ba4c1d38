use Rattle.std.proofs.Common.{◌∙◌, ℕ, List, subst, sym}
use Rattle.vrp_command_streams.specs.Input.{IsInput}
use Rattle.vrp_command.proofs.Lines.{answers_kept, kept_refuses_nothing}
use Rattle.vrp_command.proofs.kept.run_kept.Goals as goal

pub returns-in-Ok-outcome-clause-told : goal.returns-in-Ok-outcome-clause-told
returns-in-Ok-outcome-clause-told g c = λ telling.
    let left = g.R.Read.remaining in
    let held = g.W.Write.contents in
    answers_kept c.args.request (g.G.Gate.may_stop c.args.resources.now.gate.now) _ c.start_file.result (left c.args.input.now) (left c.read.new.input) c.as_slice.result.now _ (held c.args.output.now) (held c.answer_timed-outcome.new.output)
    c.in-Ok-outcome.written c.end_answered.result c.end_answered.ensures (c.start_file.ensures ∙ c.in-Ok.ensures.start) (subst (λ (bytes : List ℕ). IsInput (left c.args.input.now) (left c.read.new.input) bytes) (sym c.as_slice.ensures.value) c.in-Ok.ensures.input) c.in-Ok-outcome.ensures.printed

pub returns-in-Ok-outcome-clause-silent : goal.returns-in-Ok-outcome-clause-silent
returns-in-Ok-outcome-clause-silent g c = λ refusing.
    let left = g.R.Read.remaining in
    let held = g.W.Write.contents in
    let may_stop = g.G.Gate.may_stop c.args.resources.now.gate.now in
    let all = answers_kept c.args.request may_stop _ c.start_file.result (left c.args.input.now) (left c.read.new.input) c.as_slice.result.now _ (held c.args.output.now) (held c.answer_timed-outcome.new.output) c.in-Ok-outcome.written
    c.end_answered.result c.end_answered.ensures (c.start_file.ensures ∙ c.in-Ok.ensures.start) (subst (λ (bytes : List ℕ). IsInput (left c.args.input.now) (left c.read.new.input) bytes) (sym c.as_slice.ensures.value) c.in-Ok.ensures.input) c.in-Ok-outcome.ensures.printed in
    absurd (kept_refuses_nothing c.args.request may_stop (left c.args.input.now) (left c.read.new.input) (held c.args.output.now) (held c.answer_timed-outcome.new.output) c.end_answered.result all refusing)
