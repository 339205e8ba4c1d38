use Rattle.std.proofs.Common.{◌≡◌, List, [], ◌∷◌, length, refl, subst, sym, rules, arith}
use Rattle.std.specs.List.{All}
use Rattle.std.proofs.lemmas.List.Elements.{All-head}
use Rattle.vrp_sharing.specs.Caller.{CallerState, RegisterState}
use Rattle.vrp_solver.specs.Inner.Workers.{IsPartly, IsWorker, WorkerState}
use Rattle.vrp_solver.proofs.Teams.{none_taken_over, one_taken_over}
use Rattle.vrp_solver.proofs.team.taken_over.Goals as goal

none_left : (rest : List WorkerState) → length rest ≡ 0 → rest ≡ []
none_left [] none = refl
none_left (helper ∷ rest) none = absurd (omega (arith, none))

pub loop-helper-init : goal.loop-helper-init
loop-helper-init g c =
    let s = c.args.shared.now in
    let lead = c.args.lead.now in
    let register = lead.board.register in
    let put = lead.drawer.put in
    let none : IsPartly s register put [] c.args.helpers.items lead = none_taken_over s register put lead c.args.helpers.items c.requires refl in
    subst (λ (callers : List CallerState). IsPartly s register put callers c.into_iter-helper-iterator.result.rest.items lead) (sym c.new-callers.ensures.items)
    (subst (λ (rest : List WorkerState). IsPartly s register put [] rest lead) (sym c.into_iter-helper-iterator.ensures.into_iter_gives.0) none)

pub take_over-requires-clause-helper : goal.take_over-requires-clause-helper
take_over-requires-clause-helper g c =
    let s = c.args.shared.now in
    let pile = c.loop-helper.lead.drawer.pile in
    let register = c.args.lead.now.board.register in
    let are = subst (All (IsWorker s register pile)) c.in-Some.ensures.steps.0 c.loop-helper.invariant.rest_are in
    subst (λ (r : RegisterState). IsWorker s r pile c.in-Some.helper) (sym c.loop-helper.invariant.lead_is.of_register) (All-head (IsWorker s register pile) c.in-Some.helper c.next.new.self.rest.items are)

pub take_over-requires-clause-lead : goal.take_over-requires-clause-lead
take_over-requires-clause-lead g c =
    let lead = c.loop-helper.lead in
    subst (λ (r : RegisterState). IsWorker c.args.shared.now r lead.drawer.pile lead) (sym c.loop-helper.invariant.lead_is.of_register) c.loop-helper.invariant.lead_is

pub loop-helper-preserved : goal.loop-helper-preserved
loop-helper-preserved g c =
    let s = c.args.shared.now in
    let register = c.args.lead.now.board.register in
    let put = c.args.lead.now.drawer.put in
    let lead = c.loop-helper.lead in
    let callers = c.loop-helper.callers.items in
    let rest = c.next.new.self.rest.items in
    let so_far = subst (λ (helpers : List WorkerState). IsPartly s register put callers helpers lead) c.in-Some.ensures.steps.0 c.loop-helper.invariant in
    let over = one_taken_over s register put callers c.in_ok-take_over.field-0 c.in-Some.helper rest lead c.take_over.new.self so_far c.in_ok-take_over.ensures in
    subst (λ (more : List CallerState). IsPartly s register put more rest c.take_over.new.self) (sym c.in_ok-push.ensures.items) over

pub returns : goal.returns
returns g c =
    let lead = c.args.lead.now in
    let rest = c.loop-helper.helper-iterator.rest.items in
    let none : length rest ≡ 0 = search rules in
    subst (λ (helpers : List WorkerState). IsPartly c.args.shared.now lead.board.register lead.drawer.put c.loop-helper.callers.items helpers c.loop-helper.lead) (none_left rest none) c.loop-helper.invariant
