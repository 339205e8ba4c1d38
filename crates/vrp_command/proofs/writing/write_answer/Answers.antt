use Rattle.std.proofs.Common.{◌∙◌, ℕ, Option, subst}
use Rattle.std.specs.Option.{option_map}
use Rattle.std.specs.Prelude.{string_bytes}
use Rattle.vrp_command.specs.Form.{IsFormIn}
use Rattle.vrp_command.specs.Inner.Ready.{context_for}
use Rattle.vrp_command.specs.Inner.Told.{told_outcome}
use Rattle.vrp_command.specs.Text.{context_of}
use Rattle.vrp_command.proofs.Requests.{writes_found, writes_found_part}
use Rattle.vrp_command.proofs.Starts.{cost_lent}
use Rattle.vrp_command.proofs.writing.write_answer.Goals as goal

pub returns-clause-printed : goal.returns-clause-printed
returns-clause-printed g c may_stop start found =
    let request = c.args.request.now in
    let ready = c.args.ready.now in
    let held = g.W.Write.contents in
    let name = option_map string_bytes ready.problem.beside.name in
    let is = subst (λ (cost : Option ℕ). IsFormIn request.format (context_of request name cost) c.stating-stating.result) (c.stated_cost_of.ensures ∙ cost_lent _ _ c.as_ref-2.ensures.value) (c.stating-stating.ensures request name c.form_of-form.ensures) in
    writes_found request (context_for request ready) may_stop ready.problem.instance start c.stating-stating.result (told_outcome request.seconds ready.outcome) (held c.args.output.now) (held c.print_ready.new.output) is found c.print_ready.result
    c.print_ready.ensures.printed c.print_ready.ensures.status

pub returns-clause-begun : goal.returns-clause-begun
returns-clause-begun g c may_stop start found =
    let request = c.args.request.now in
    let ready = c.args.ready.now in
    let held = g.W.Write.contents in
    let name = option_map string_bytes ready.problem.beside.name in
    let is = subst (λ (cost : Option ℕ). IsFormIn request.format (context_of request name cost) c.stating-stating.result) (c.stated_cost_of.ensures ∙ cost_lent _ _ c.as_ref-2.ensures.value) (c.stating-stating.ensures request name c.form_of-form.ensures) in
    writes_found_part request (context_for request ready) may_stop ready.problem.instance start c.stating-stating.result (told_outcome request.seconds ready.outcome) (held c.args.output.now) (held c.print_ready.new.output) is found c.print_ready.result
    c.print_ready.ensures.begun
