use Rattle.std.proofs.Common.{◌≡◌, false, [], ◌∷◌, length, ap, subst, sym, rules, arith}
use Rattle.vrp_model.proofs.PrefixWithSymbol.{All-last, All-left}
use Rattle.vrp_sharing.specs.Pile.{DrawerState, IsNewThief}
use Rattle.vrp_sharing.specs.Caller.{RegisterState}
use Rattle.std.specs.List.{All}
use Rattle.std.proofs.lemmas.List.Elements.{All-nil}
use Rattle.vrp_answer.specs.Outcomes.{Search}
use Rattle.vrp_solver.specs.Inner.Workers.{HasOutcomes, IsNewCaller, IsWorker, WorkerState}
use Rattle.vrp_solver.proofs.Teams.{AreNewHelpers, new_team, one_more_helper}
use Rattle.vrp_solver.proofs.team.new_team.Goals as goal

-- no helpers to begin with
no_helpers : (s : Search) (register : RegisterState) (owner : DrawerState) → AreNewHelpers s register owner []
no_helpers s register owner = record {
  are = All-nil (IsWorker s register owner.pile);
  have = All-nil (λ h. h.refused ≡ false → HasOutcomes s h);
  fine = All-nil (λ h. h.refused ≡ false);
}

pub loop-thief-preserved : goal.loop-thief-preserved
loop-thief-preserved g c =
    let s = c.args.shared.now in
    let register = c.args.register.now in
    let owner = c.args.owner in
    let thieves = subst (All (IsNewThief owner)) c.in-Some.ensures.items c.loop-thief.invariant.thieves in
    let callers = subst (All (IsNewCaller register)) c.in-Some-pop.ensures.items c.loop-thief.invariant.callers in
    let new = All-last (IsNewThief owner) c.pop.new.self.items c.in-Some.thief thieves in
    record {
      thieves = All-left (IsNewThief owner) c.pop.new.self.items (c.in-Some.thief ∷ []) thieves;
      callers = All-left (IsNewCaller register) c.pop-in-Some.new.self.items (c.in-Some-pop.caller ∷ []) callers;
      as_many = search rules;
      helpers = one_more_helper s register owner c.in-Some.thief c.in-Some-pop.caller c.new.result c.loop-thief.helpers.items c.push.new.self.items c.requires.prefixes new c.new.ensures c.loop-thief.invariant.helpers (search rules);
      many = search rules;
    }

pub new-requires : goal.new-requires
new-requires g c = All-last (IsNewCaller c.args.register.now) c.pop-in-Some.new.self.items c.in-Some-pop.caller (subst (All (IsNewCaller c.args.register.now)) c.in-Some-pop.ensures.items c.loop-thief.invariant.callers)

pub new-requires-2 : goal.new-requires-2
new-requires-2 g c = All-last (IsNewCaller c.args.register.now) c.pop-2.new.self.items c.in-Some-pop-2.caller (subst (All (IsNewCaller c.args.register.now)) c.in-Some-pop-2.ensures.items c.loop-thief.invariant.callers)

pub loop-thief-init : goal.loop-thief-init
loop-thief-init g c = record {
  thieves = c.requires.pile.each;
  callers = c.requires.callers;
  as_many = c.requires.as_many;
  helpers = subst (AreNewHelpers c.args.shared.now c.args.register.now c.args.owner) (sym c.in_ok-helpers.ensures.items) (no_helpers c.args.shared.now c.args.register.now c.args.owner);
  many = search rules;
}

pub returns-clause-team : goal.returns-clause-team
returns-clause-team g c =
    let inv = c.loop-thief.invariant in
    let helpers = c.loop-thief.helpers.items in
    let empty : length c.loop-thief.thieves.items ≡ 0 = search rules in
    let many : length helpers ≡ length c.args.thieves.items = omega (arith, inv.many, empty) in
    new_team c.args.shared.now c.args.register.now c.args.owner c.in-Some-pop-2.caller c.new-2.result helpers
    c.requires.prefixes c.requires.pile.nothing (omega (arith, many, c.requires.pile.many)) (omega (arith, many, c.requires.as_many, c.requires.all)) c.new-2.ensures inv.helpers

pub returns-clause-fine : goal.returns-clause-fine
returns-clause-fine g c = c.loop-thief.invariant.helpers.fine

pub returns-clause-put : goal.returns-clause-put
returns-clause-put g c = ap (λ (w : WorkerState). w.drawer.put) c.new-2.ensures
