use Rattle.std.proofs.Common.{◌∙◌, Some, ap, refl, sym}
use Rattle.std.specs.Option.{option_map}
use Rattle.vrp_answer.specs.Finding.{lawful_finding}
use Rattle.vrp_command.specs.Found.{told_of}
use Rattle.vrp_command.proofs.LawfulAnswers.{told_of_lawful}
use Rattle.vrp_command.proofs.Requests.{is_checked, is_searched}
use Rattle.vrp_command.proofs.outcome.find.Goals as goal

pub returns-in_ok-copy-in-Some-clause-found : goal.returns-in_ok-copy-in-Some-clause-found
returns-in_ok-copy-in-Some-clause-found g c =
    let copy = c.in_ok-copy-in-Some.field-0 in
    is_checked c.args.request.now (g.G.Gate.may_stop c.args.resources.now.gate.now) c.args.instance.now (option_map (λ plan. plan.now) c.args.start) copy (lawful_finding copy) c.in-Some.ensures.0
    (c.in-Some.ensures.1 ∙ ap Some (sym c.in_ok-copy-in-Some.ensures)) refl

pub returns-in_ok-copy-in-Some-clause-plan : goal.returns-in_ok-copy-in-Some-clause-plan
returns-in_ok-copy-in-Some-clause-plan g c = λ plan is. c.requires.start plan (c.in-Some.ensures.1 ∙ ap Some (sym c.in_ok-copy-in-Some.ensures) ∙ is)

pub returns-in_ok-solved-in-None-clause-found : goal.returns-in_ok-solved-in-None-clause-found
returns-in_ok-solved-in-None-clause-found g c =
    let request = c.args.request.now in
    let solved = c.in_ok-solved-in-None.solved in
    let told = told_of request.seconds solved.answer solved.lower_bound in
    let known = c.in_ok-solved-in-None.ensures in
    is_searched request (g.G.Gate.may_stop c.args.resources.now.gate.now) c.args.instance.now (option_map (λ plan. plan.now) c.args.start) solved.answer solved.lower_bound told c.in-None.ensures known.answer known.no_costlier known.bound refl

pub returns-in_ok-solved-in-None-clause-plan : goal.returns-in_ok-solved-in-None-clause-plan
returns-in_ok-solved-in-None-clause-plan g c =
    let request = c.args.request.now in
    let solved = c.in_ok-solved-in-None.solved in
    told_of_lawful c.args.instance.now request.options.pieces request.options.budget (g.G.Gate.may_stop c.args.resources.now.gate.now) request.seconds solved.answer solved.lower_bound (told_of request.seconds solved.answer solved.lower_bound) refl c.in_ok-solved-in-None.ensures.answer
