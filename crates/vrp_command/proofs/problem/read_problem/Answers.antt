use Rattle.std.proofs.Common.{◌∙◌, ap}
use Rattle.std.proofs.lemmas.Result.{err_from_is_err_and}
use Rattle.vrp_plan_text.specs.Name.{name_of}
use Rattle.vrp_command.specs.Run.{RefusesInput}
use Rattle.vrp_command.proofs.RefusalLemmas.{on_refusal}
use Rattle.vrp_command.proofs.problem.read_problem.Goals as goal

pub returns-in_err-instance-clause-refused : goal.returns-in_err-instance-clause-refused
returns-in_err-instance-clause-refused g c =
    let exit = err_from_is_err_and c.from_residual-in_err-instance.result c.from_residual-in_err-instance.ensures.1 in
    let left = g.R.Read.remaining in
    let known = rw c.deref.ensures.value at c.in_err-instance.ensures.refused in
    rw (exit.1, exit.2)
    (on_refusal (RefusesInput c.args.options.depot (left c.args.input.now) (left c.read_input.new.input)) c.in_err-instance.field-0.0
    (λ wants. record { bytes = c.in_ok-bytes.bytes.items; input = c.in_ok-bytes.ensures.read; refused = known wants }))

pub returns-clause-read : goal.returns-clause-read
returns-clause-read g c =
    record {
      read = record { bytes = c.in_ok-bytes.bytes.items; input = c.in_ok-bytes.ensures.read; meant = c.in_ok-instance.instance; means = rw c.deref.ensures.value at c.in_ok-instance.ensures.meant; with_trucks = c.limited.ensures };
      named = λ json. c.in_ok-beside.ensures json ∙ ap name_of c.deref-2.ensures.value;
    }
