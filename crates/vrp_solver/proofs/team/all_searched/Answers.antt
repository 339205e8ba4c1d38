use Rattle.std.proofs.Common.{◌≡◌, ◌∙◌, List, [], subst, sym}
use Rattle.std.specs.Option.{ForSome, option_map}
use Rattle.std.specs.Prelude.{IfOk}
use Rattle.vrp_model.specs.Route.{IsPlanOf}
use Rattle.vrp_sharing.specs.Caller.{RegisterState}
use Rattle.vrp_search_tree.specs.Cutting.{NumberedWord}
use Rattle.vrp_answer.specs.Outcomes.{Search}
use Rattle.vrp_solver.specs.Inner.Workers.{AreBack, IsPartly, IsTeam}
use Rattle.vrp_solver.proofs.Teams.{lead_worked}
use Rattle.vrp_solver.proofs.team.all_searched.Goals as goal

pub offer-requires-clause-can : goal.offer-requires-clause-can
offer-requires-clause-can g c = c.requires.team.lead_is.can

pub offer-requires-clause-plan : goal.offer-requires-clause-plan
offer-requires-clause-plan g c = subst (λ (s : Search). ForSome (option_map (λ plan. plan.now) c.shared.inside.start_plan) (IsPlanOf s.problem)) c.shared.view_is c.shared.invariant.2

pub run_workers-requires-clause-team : goal.run_workers-requires-clause-team
run_workers-requires-clause-team g c κs within =
    let s = c.args.shared.now in
    let lead = c.args.lead in
    let later = c.offer.new.self in
    let offered = c.offer.ensures in
    subst (λ (r : RegisterState). IsTeam s r later c.args.helpers.items) (sym offered.worked.later.register)
    (lead_worked s lead.board.register lead later c.args.helpers.items c.requires.team offered.worked offered.searched)

pub run_workers-requires-clause-fine : goal.run_workers-requires-clause-fine
run_workers-requires-clause-fine g c κs within = c.requires.fine

pub taken_over-requires : goal.taken_over-requires
taken_over-requires g c =
    let team = c.in_ok-lead.ensures.team in
    subst (λ (r : RegisterState). IsTeam c.args.shared.now r c.in_ok-lead.lead c.in_ok-lead.helpers.items) (sym team.lead_is.of_register) team

pub drain_pile-requires : goal.drain_pile-requires
drain_pile-requires g c =
    let s = c.args.shared.now in
    let before = c.in_ok-lead.lead in
    let lead = c.taken_over.new.lead in
    let callers = c.in_ok-callers.callers.items in
    let over = c.in_ok-callers.ensures in
    subst (λ (r : RegisterState). IsPartly s r lead.drawer.put callers [] lead) (sym over.lead_is.of_register)
    (subst (λ (put : List NumberedWord). IsPartly s before.board.register put callers [] lead) (sym over.put_is) over)

pub returns-clause-back : goal.returns-clause-back
returns-clause-back g c =
    let register = c.in_ok-callers.ensures.lead_is.of_register ∙ c.in_ok-lead.ensures.team.lead_is.of_register ∙ c.offer.ensures.worked.later.register in
    subst (λ (r : RegisterState). IfOk c.drain_pile.result (λ found. AreBack c.args.shared.now r found.0.items found.1)) register c.drain_pile.ensures.back

pub returns-clause-put : goal.returns-clause-put
returns-clause-put g c =
    let put = c.in_ok-callers.ensures.put_is ∙ c.in_ok-lead.ensures.put ∙ c.offer.ensures.worked.put in
    subst (λ (pieces : List NumberedWord). IfOk c.drain_pile.result (λ found. found.1.pile.put ≡ pieces)) put c.drain_pile.ensures.put
