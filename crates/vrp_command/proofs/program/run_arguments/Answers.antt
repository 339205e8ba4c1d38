use Rattle.std.proofs.Common.{inl, inr}
use Rattle.vrp_command.proofs.Lines.{line_tells}
use Rattle.vrp_command.proofs.program.run_arguments.Goals as goal

pub returns-in-Err-clause-told : goal.returns-in-Err-clause-told
returns-in-Err-clause-told g c = λ telling. inr (line_tells c.args.arguments.now c.in-Err.fault c.refuse.result (g.R.Read.remaining c.args.input.now) c.refuse.ensures.status c.in-Err.ensures.help telling)

pub returns-then-request-clause-told : goal.returns-then-request-clause-told
returns-then-request-clause-told g c = λ telling. inl (record { request = c.in-Ok.request; asked = c.in-Ok.ensures.asked; answered = c.run_kept.ensures.told telling })

pub returns-clause-told : goal.returns-clause-told
returns-clause-told g c = λ telling. inl (record { request = c.in-Ok.request; asked = c.in-Ok.ensures.asked; answered = c.run_opened.ensures.told telling })
