use Rattle.std.proofs.Common.{◌≡◌, ◌∙◌, ◌+◌, false, Option, List, [], ◌∷◌, ◌++◌, length, length-append, take, ap, subst, sym, rules, arith}
use Rattle.std.specs.Prelude.{Bool, replicate}
use Rattle.std.proofs.lemmas.List.{append_assoc}
use Rattle.vrp_model.specs.Route.{PricedPlan}
use Rattle.vrp_answer.specs.Inner.Conclusion.{AreNoted, IsOfferedTo}
use Rattle.vrp_answer.specs.Outcomes.{IsOutcome, Search}
use Rattle.vrp_answer.specs.declared.outcome.OpenPiece.{OpenPiece}
use Rattle.vrp_answer.specs.declared.outcome.PieceOutcome.{PieceOutcome}
use Rattle.vrp_answer.proofs.BestPlan.{no_later_itself, no_later_transitive}
use Rattle.vrp_answer.proofs.NotedOutcomes.{at_last, next_piece, none_gathered, one_finished, one_left}
use Rattle.vrp_answer.proofs.conclusion.note_outcomes.Goals as goal

pub loop-outcome-init : goal.loop-outcome-init
loop-outcome-init g c =
    let s = c.args.shared.now in
    let kept = c.args.book.plan in
    let added : c.in_ok-gatherer.gatherer ≡ replicate s.pieces false = c.in_ok-gatherer.ensures ∙ ap (λ (t : Search). replicate t.pieces false) c.shared.view_is in
    record {
      later = no_later_itself kept;
      split = sym c.into_iter-outcome-iterator.ensures.into_iter_gives.0;
      all = λ floor pieces outcomes apart.
          subst (λ (left : List OpenPiece). AreNoted s floor kept [] c.in_ok-gatherer.gatherer left) (sym c.new-left.ensures.items)
          (subst (λ (a : List Bool). AreNoted s floor kept [] a []) (sym added) (none_gathered s floor kept c.requires));
    }

pub loop-outcome-preserved : goal.loop-outcome-preserved
loop-outcome-preserved g c =
    let s = c.args.shared.now in
    let outcomes = c.args.outcomes.items in
    let one = c.in-Some.outcome in
    let so_far = c.loop-outcome.invariant in
    let plan = c.loop-outcome.book.plan in
    let added = c.loop-outcome.gatherer in
    let left = c.loop-outcome.left.items in
    let yielded = c.loop-outcome.yielded in
    let rest = c.next.new.self.rest.items in
    let unfinished = c.in-Unfinished.unfinished in
    let now : outcomes ≡ yielded ++ one ∷ rest = so_far.split ∙ ap (λ (os : List PieceOutcome). yielded ++ os) c.in-Some.ensures.steps.0 in
    let longer : length (yielded ++ one ∷ []) ≡ length yielded + 1 = length-append yielded (one ∷ []) in
    record {
      later = so_far.later;
      split = now ∙ sym (append_assoc yielded (one ∷ []) rest);
      all = λ floor pieces kept apart.
          (let next = next_piece s floor pieces outcomes yielded rest one now kept apart in
          let is = subst (IsOutcome s floor _) c.in-Unfinished.is next.kept in
          rw (longer, next.more, c.in_ok-push-in-Unfinished.ensures.items) (one_left s floor plan (take (length yielded) pieces) added left _ unfinished (so_far.all floor pieces kept apart) next.fresh is));
    }

pub loop-outcome-preserved-in-Finished : goal.loop-outcome-preserved-in-Finished
loop-outcome-preserved-in-Finished g c =
    let s = c.args.shared.now in
    let outcomes = c.args.outcomes.items in
    let one = c.in-Some.outcome in
    let so_far = c.loop-outcome.invariant in
    let old = c.loop-outcome.book.plan in
    let new = c.offer_some.new.book.plan in
    let added = c.loop-outcome.gatherer in
    let left = c.loop-outcome.left.items in
    let yielded = c.loop-outcome.yielded in
    let rest = c.next.new.self.rest.items in
    let finished = c.in-Finished.finished in
    let offered = subst (λ (plan : Option PricedPlan). IsOfferedTo old plan new) c.as_ref.ensures.value c.in_ok-offer_some-in-Finished.ensures in
    let now : outcomes ≡ yielded ++ one ∷ rest = so_far.split ∙ ap (λ (os : List PieceOutcome). yielded ++ os) c.in-Some.ensures.steps.0 in
    let longer : length (yielded ++ one ∷ []) ≡ length yielded + 1 = length-append yielded (one ∷ []) in
    record {
      later = no_later_transitive new old c.args.book.plan offered.later so_far.later;
      split = now ∙ sym (append_assoc yielded (one ∷ []) rest);
      all = λ floor pieces kept apart.
          (let next = next_piece s floor pieces outcomes yielded rest one now kept apart in
          let is = subst (IsOutcome s floor _) c.in-Finished.is next.kept in
          rw (longer, next.more) (one_finished s floor old new (take (length yielded) pieces) added c.add.new.self left _ finished c.add.result (so_far.all floor pieces kept apart) next.fresh next.below is offered c.add.ensures));
    }

pub returns-clause-later : goal.returns-clause-later
returns-clause-later g c = c.loop-outcome.invariant.later

pub returns-clause-all : goal.returns-clause-all
returns-clause-all g c = λ floor pieces kept apart.
    let so_far = c.loop-outcome.invariant in
    let yielded = c.loop-outcome.yielded in
    let rest = c.loop-outcome.outcome-iterator.rest.items in
    let empty : length rest ≡ 0 = search rules in
    let all : length yielded ≡ length pieces = omega (arith, empty, kept.many, ap length so_far.split, length-append yielded rest) in
    at_last c.args.shared.now floor c.loop-outcome.book.plan pieces c.loop-outcome.gatherer c.loop-outcome.left.items (length yielded) all (so_far.all floor pieces kept apart)
