use Rattle.std.proofs.Common.{◌≡◌, ℕ, Option, None, false, ap, refl, subst}
use Rattle.vrp_command.specs.Found.{IsFoundBy}
use Rattle.vrp_command.specs.Inner.Told.{told_outcome}
use Rattle.vrp_command.specs.Text.{context_of}
use Rattle.vrp_command.specs.declared.form.Form.TheVariants as form
use Rattle.vrp_command.specs.Run.{ReadsProblem}
use Rattle.vrp_command_request.specs.declared.options.Options.{Options}
use Rattle.vrp_command_request.specs.declared.options.Request.{Request}
use Rattle.std.specs.Option.{ForSome}
use Rattle.vrp_model.specs.Route.{IsPlanOf}
use Rattle.vrp_command.proofs.ReadProblems.{is_report_form, prints_answer, prints_part}
use Rattle.vrp_command.proofs.Requests.{on_err, on_ok, writes_found, writes_found_part}
use Rattle.vrp_command.proofs.command.run.Goals as goal

pub print_ready-printed-requires : goal.print_ready-printed-requires
print_ready-printed-requires g c =
    let ready = c.in_ok-ready.ready in
    let untimed : c.report.result.seconds ≡ None = ap (λ (r : Request). r.seconds) c.report.ensures in
    subst (λ (seconds : Option ℕ). ForSome (told_outcome seconds ready.outcome).plan (IsPlanOf ready.problem.instance)) untimed c.in_ok-ready.ensures.ready.plan

pub returns-clause-printed : goal.returns-clause-printed
returns-clause-printed g c =
    let left = g.R.Read.remaining in
    let held = g.W.Write.contents in
    let request = c.report.result in
    let asks = c.report.ensures in
    let ready = c.in_ok-ready.ready in
    let p = ready.problem.instance in
    let context = context_of request None None in
    let is = c.in_ok-ready.ensures.ready in
    let untimed : request.seconds ≡ None = ap (λ (r : Request). r.seconds) asks in
    let found = subst (λ (seconds : Option ℕ). IsFoundBy request false p None (told_outcome seconds ready.outcome)) untimed is.found in
    let written = writes_found request context false p None form.Report (told_outcome None ready.outcome) (held c.args.output.now) (held c.print_ready-printed.new.output) (is_report_form c.args.options request form.Report context asks refl) found
    c.print_ready-printed.result c.print_ready-printed.ensures.printed c.print_ready-printed.ensures.status in
    on_ok c.print_ready-printed.result (prints_answer c.args.options request false (left c.args.input.now) (left c.solve_alone.new.input) (held c.args.output.now) (held c.print_ready-printed.new.output) p context asks (subst (λ (o : Options). ReadsProblem o (left c.args.input.now) (left c.solve_alone.new.input) p) (ap (λ (r : Request). r.options) asks) is.read.read)) written

pub returns-clause-begun : goal.returns-clause-begun
returns-clause-begun g c =
    let left = g.R.Read.remaining in
    let held = g.W.Write.contents in
    let request = c.report.result in
    let asks = c.report.ensures in
    let ready = c.in_ok-ready.ready in
    let p = ready.problem.instance in
    let context = context_of request None None in
    let is = c.in_ok-ready.ensures.ready in
    let untimed : request.seconds ≡ None = ap (λ (r : Request). r.seconds) asks in
    let found = subst (λ (seconds : Option ℕ). IsFoundBy request false p None (told_outcome seconds ready.outcome)) untimed is.found in
    let written = writes_found_part request context false p None form.Report (told_outcome None ready.outcome) (held c.args.output.now) (held c.print_ready-printed.new.output) (is_report_form c.args.options request form.Report context asks refl) found
    c.print_ready-printed.result c.print_ready-printed.ensures.begun in
    on_err c.print_ready-printed.result (λ error known is_write. prints_part c.args.options request false (left c.args.input.now) (left c.solve_alone.new.input) (held c.args.output.now) (held c.print_ready-printed.new.output) p context asks (subst (λ (o : Options). ReadsProblem o (left c.args.input.now) (left c.solve_alone.new.input) p) (ap (λ (r : Request). r.options) asks) is.read.read) (known is_write)) written
