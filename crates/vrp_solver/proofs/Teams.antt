-- What is known of all workers together.
use Rattle.std.proofs.Common.{◌≡◌, ◌∙◌, ℕ, ◌+◌, ◌≤◌, ◌<◌, false, List, [], ◌∷◌, ◌++◌, length, length-append, refl, sym, subst, ap, arith}
use Rattle.std.specs.List.{All}
use Rattle.std.proofs.lemmas.List.Elements.{All-append, All-cons, All-head, All-nil, All-tail}
use Rattle.vrp_model.proofs.PrefixWithSymbol.{All-last, All-left}
use Rattle.vrp_model.specs.Cheapest.{cost_of}
use Rattle.vrp_sharing.specs.Pile.{AreShared, DrawerState, IsNewThief, PileId}
use Rattle.vrp_sharing.specs.declared.limits.TheConstants.{MAX_DRAWERS}
use Rattle.vrp_sharing.specs.Caller.{CallerState, IsCallerOf, RegisterState}
use Rattle.vrp_search_tree.specs.Cutting.{NumberedWord}
use Rattle.vrp_solver.specs.SeatBoard.{floor_of, least_seen}
use Rattle.vrp_answer.specs.Outcomes.{AreOutcomes, Search}
use Rattle.vrp_solver.specs.Inner.Workers.{AreBack, ArePrefixes, CostsNoLess, HasOutcomes, HasSearched, HaveHelped, IsPartly, IsTakenOver, IsTeam, IsWorked, IsWorker, WorkerState, new_worker}
use Rattle.vrp_answer.specs.declared.outcome.Searched.{Searched}
use Rattle.vrp_solver.proofs.KeptOutcomes.{kept_lower, kept_together, none_kept}
use Rattle.vrp_solver.proofs.Works.{can_still, still_has}

-- ---- new workers

-- a worker who has done nothing yet
is_new : (s : Search) (register : RegisterState) (caller : CallerState) (drawer : DrawerState) → ArePrefixes s drawer.put → IsWorker s register drawer.pile (new_worker s register caller drawer)
is_new s register caller drawer prefixes = record {
  can = record { prefixes = prefixes; serves = λ plan is. absurd (cc); may_stop = refl };
  of_pile = refl;
  of_register = refl;
}

new_has : (s : Search) (register : RegisterState) (caller : CallerState) (drawer : DrawerState) → drawer.drawn ≡ [] → HasOutcomes s (new_worker s register caller drawer)
new_has s register caller drawer nothing = subst (λ (pieces : List NumberedWord). AreOutcomes s (least_seen caller) pieces []) (sym nothing) (none_kept s (least_seen caller))

pub record AreNewHelpers (s : Search) (register : RegisterState) (owner : DrawerState) (helpers : List WorkerState) : Type 0 where
  pub are : All (IsWorker s register owner.pile) helpers
  pub have : All (λ helper. helper.refused ≡ false → HasOutcomes s helper) helpers
  pub fine : All (λ helper. helper.refused ≡ false) helpers

-- one more helper
pub one_more_helper : (s : Search) (register : RegisterState) (owner thief : DrawerState) (caller : CallerState) (helper : WorkerState) (helpers more : List WorkerState) → ArePrefixes s owner.put → IsNewThief owner thief
    → helper ≡ new_worker s register caller thief → AreNewHelpers s register owner helpers → more ≡ helpers ++ helper ∷ [] → AreNewHelpers s register owner more
one_more_helper s register owner thief caller helper helpers more prefixes new made so_far is =
    let same : thief.pile ≡ owner.pile = ap (λ (t : DrawerState). t.pile) new in
    let on_pile : ArePrefixes s thief.put = subst (λ (t : DrawerState). ArePrefixes s t.put) (sym new) prefixes in
    let nothing : thief.drawn ≡ [] = ap (λ (t : DrawerState). t.drawn) new in
    let one : IsWorker s register owner.pile helper = rw made (subst (λ (pile : PileId). IsWorker s register pile (new_worker s register caller thief)) same (is_new s register caller thief on_pile)) in
    let has : HasOutcomes s helper = rw made (new_has s register caller thief nothing) in
    rw is (record {
      are = All-append (IsWorker s register owner.pile) helpers (helper ∷ []) so_far.are (All-cons (IsWorker s register owner.pile) helper [] one (All-nil (IsWorker s register owner.pile)));
      have = All-append (λ h. h.refused ≡ false → HasOutcomes s h) helpers (helper ∷ []) so_far.have
          (All-cons (λ h. h.refused ≡ false → HasOutcomes s h) helper [] (λ fine. has) (All-nil (λ h. h.refused ≡ false → HasOutcomes s h)));
      fine = All-append (λ h. h.refused ≡ false) helpers (helper ∷ []) so_far.fine (All-cons (λ h. h.refused ≡ false) helper [] (rw made refl) (All-nil (λ h. h.refused ≡ false)));
    })

pub new_team : (s : Search) (register : RegisterState) (owner : DrawerState) (caller : CallerState) (lead : WorkerState) (helpers : List WorkerState) → ArePrefixes s owner.put → owner.drawn ≡ [] → owner.parts + length helpers ≡ MAX_DRAWERS
    → length helpers + 1 ≡ register.callers → lead ≡ new_worker s register caller owner → AreNewHelpers s register owner helpers → IsTeam s register lead helpers
new_team s register owner caller lead helpers prefixes nothing parts callers made new = rw made (record {
  lead_is = is_new s register caller owner prefixes;
  lead_has = new_has s register caller owner nothing;
  helpers_are = new.are;
  helpers_have = new.have;
  parts = parts;
  callers = callers;
})

-- ---- after their work

worker_still : (s : Search) (register : RegisterState) (pile later : PileId) (old new : WorkerState) → IsWorker s register pile old → IsWorked s old new → later ≡ pile → IsWorker s register later new
worker_still s register pile later old new worker worked same = record {
  can = can_still s old new worker.can worked;
  of_pile = worked.pile ∙ worker.of_pile ∙ sym same;
  of_register = worked.later.register ∙ worker.of_register;
}

-- the lead alone has worked
pub lead_worked : (s : Search) (register : RegisterState) (lead later : WorkerState) (helpers : List WorkerState) → IsTeam s register lead helpers → IsWorked s lead later → HasSearched s lead later → IsTeam s register later helpers
lead_worked s register lead later helpers team worked searched = record {
  lead_is = worker_still s register lead.drawer.pile later.drawer.pile lead later team.lead_is worked worked.pile;
  lead_has = still_has s lead later team.lead_has searched worked.falls;
  helpers_are = subst (λ (pile : PileId). All (IsWorker s register pile) helpers) (sym worked.pile) team.helpers_are;
  helpers_have = team.helpers_have;
  parts = omega (arith, team.parts, worked.parts);
  callers = team.callers;
}

-- the helpers have worked, of whom memory was refused to none before
pub helpers_worked : (s : Search) (register : RegisterState) (lead : WorkerState) (helpers others : List WorkerState) → IsTeam s register lead helpers → All (λ helper. helper.refused ≡ false) helpers → HaveHelped s helpers others → IsTeam s register lead others
helpers_worked s register lead helpers others team fine helped = record {
  lead_is = team.lead_is;
  lead_has = team.lead_has;
  helpers_are = λ k d lt.
      (let was : k < length helpers = omega (arith, lt, helped.many) in
      let one = helped.each k d was in
      worker_still s register lead.drawer.pile lead.drawer.pile _ _ (team.helpers_are k d was) one.worked refl);
  helpers_have = λ k d lt fine_now.
      (let was : k < length helpers = omega (arith, lt, helped.many) in
      let one = helped.each k d was in
      still_has s _ _ (team.helpers_have k d was (fine k d was)) (one.searched fine_now) one.worked.falls);
  parts = omega (arith, team.parts, helped.many);
  callers = omega (arith, team.callers, helped.many);
}

-- ---- taking the helpers over

pub none_taken_over : (s : Search) (register : RegisterState) (put : List NumberedWord) (lead : WorkerState) (helpers : List WorkerState) → IsTeam s register lead helpers → lead.drawer.put ≡ put → IsPartly s register put [] helpers lead
none_taken_over s register put lead helpers team same = record {
  lead_is = team.lead_is;
  put_is = same;
  one_of = All-nil (IsCallerOf register);
  offered = All-nil (CostsNoLess (cost_of lead.board.best));
  kept = λ least below others. kept_lower s (floor_of lead.board) least lead.drawer.drawn lead.outcomes below team.lead_has;
  rest_are = team.helpers_are;
  rest_have = team.helpers_have;
  parts = team.parts;
  many = omega (arith, team.callers);
}

-- the callers have offered nothing that costs less, also where the plan costs less than it did
pub offered_lower : (old new : ℕ) (callers : List CallerState) → new ≤ old → All (CostsNoLess old) callers → All (CostsNoLess new) callers
offered_lower old new callers falls all = λ k d lt j o within. omega (arith, falls, all k d lt j o within)

pub one_taken_over : (s : Search) (register : RegisterState) (put : List NumberedWord) (callers : List CallerState) (caller : CallerState) (helper : WorkerState) (rest : List WorkerState) (lead later : WorkerState)
    → IsPartly s register put callers (helper ∷ rest) lead → IsTakenOver s lead helper caller later → IsPartly s register put (callers ++ caller ∷ []) rest later
one_taken_over s register put callers caller helper rest lead later so_far over =
    let cost = cost_of later.board.best in
    let is = All-head (IsWorker s register lead.drawer.pile) helper rest so_far.rest_are in
    let has = All-head (λ h. h.refused ≡ false → HasOutcomes s h) helper rest so_far.rest_have in
    let mine : IsCallerOf register caller = subst (λ (r : RegisterState). IsCallerOf r caller) is.of_register over.one_of in
    record {
      lead_is = record {
        can = record { prefixes = subst (ArePrefixes s) (sym over.drawer.put) so_far.lead_is.can.prefixes; serves = over.serves; may_stop = over.later.may_stop ∙ so_far.lead_is.can.may_stop };
        of_pile = refl;
        of_register = over.later.register ∙ so_far.lead_is.of_register;
      };
      put_is = over.drawer.put ∙ so_far.put_is;
      one_of = All-append (IsCallerOf register) callers (caller ∷ []) so_far.one_of (All-cons (IsCallerOf register) caller [] mine (All-nil (IsCallerOf register)));
      offered = All-append (CostsNoLess cost) callers (caller ∷ []) (offered_lower (cost_of lead.board.best) cost callers over.later.falls so_far.offered)
          (All-cons (CostsNoLess cost) caller [] over.no_less (All-nil (CostsNoLess cost)));
      kept = λ least below all.
          let before : least ≤ floor_of lead.board = subst (λ (c : CallerState). least ≤ least_seen c) over.same below in
          let here : least ≤ floor_of helper.board = subst (λ (c : CallerState). least ≤ least_seen c) over.caller_is (All-last (λ c. least ≤ least_seen c) callers caller all) in
          rw (over.drawer.drawn, over.outcomes)
          (kept_together s least lead.drawer.drawn helper.drawer.drawn lead.outcomes helper.outcomes (so_far.kept least before (All-left (λ c. least ≤ least_seen c) callers (caller ∷ []) all))
          (kept_lower s (floor_of helper.board) least helper.drawer.drawn helper.outcomes here (has over.fine)));
      rest_are = subst (λ (pile : PileId). All (IsWorker s register pile) rest) (sym over.drawer.pile) (All-tail (IsWorker s register lead.drawer.pile) helper rest so_far.rest_are);
      rest_have = All-tail (λ h. h.refused ≡ false → HasOutcomes s h) helper rest so_far.rest_have;
      parts = omega (arith, over.drawer.parts, so_far.parts);
      many = omega (arith, so_far.many, length-append callers (caller ∷ []));
    }

-- ---- all are back

-- the lead has taken all helpers over, has drawn what was left, and is the last of the callers
pub all_back : (s : Search) (register : RegisterState) (put : List NumberedWord) (callers : List CallerState) (caller : CallerState) (rest : List WorkerState) (lead later : WorkerState) (searched : Searched) → length rest ≡ 0 → IsPartly s register put callers rest lead
    → IsWorked s lead later → HasSearched s lead later → (later.drawer.parts ≡ MAX_DRAWERS → AreShared later.drawer.drawn [] later.drawer.put)
    → caller ≡ later.board.caller → IsCallerOf later.board.register caller → CostsNoLess (cost_of searched.best) caller
    → searched.pile ≡ later.drawer → searched.outcomes.items ≡ later.outcomes → searched.best ≡ later.board.best → AreBack s register (callers ++ caller ∷ []) searched
all_back s register put callers caller rest lead later searched none so_far worked has drawn caller_is one_of no_less pile outcomes best =
    let cost = cost_of searched.best in
    let falls : cost ≤ cost_of lead.board.best = rw best worked.later.falls in
    let mine : IsCallerOf register caller = subst (λ (r : RegisterState). IsCallerOf r caller) (worked.later.register ∙ so_far.lead_is.of_register) one_of in
    record {
      all_callers = (
        omega (arith, none, so_far.many, length-append callers (caller ∷ [])),
        All-append (IsCallerOf register) callers (caller ∷ []) so_far.one_of (All-cons (IsCallerOf register) caller [] mine (All-nil (IsCallerOf register))),
      );
      best_of = rw best worked.serves;
      offered = All-append (CostsNoLess cost) callers (caller ∷ []) (offered_lower (cost_of lead.board.best) cost callers falls so_far.offered) (All-cons (CostsNoLess cost) caller [] no_less (All-nil (CostsNoLess cost)));
      all = rw pile (drawn (omega (arith, none, worked.parts, so_far.parts)));
      kept = λ least above.
          let below : least ≤ floor_of later.board = subst (λ (c : CallerState). least ≤ least_seen c) caller_is (All-last (λ c. least ≤ least_seen c) callers caller above) in
          let before : least ≤ floor_of lead.board = omega (arith, below, worked.falls) in
          rw (pile, outcomes, has.drawn, has.more)
          (kept_together s least lead.drawer.drawn has.pieces lead.outcomes has.outcomes (so_far.kept least before (All-left (λ c. least ≤ least_seen c) callers (caller ∷ []) above))
          (kept_lower s (floor_of later.board) least has.pieces has.outcomes below has.kept));
    }
