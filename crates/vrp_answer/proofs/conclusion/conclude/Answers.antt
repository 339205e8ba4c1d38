use Rattle.std.proofs.Common.{◌≡◌, ◌∙◌, ◌≤◌, Option, ap, subst, sym}
use Rattle.std.specs.Option.{ForSome}
use Rattle.vrp_model.specs.Cheapest.{cost_of}
use Rattle.vrp_model.specs.Problem.{IsProblem}
use Rattle.vrp_model.specs.Route.{IsPlanOf, PricedPlan}
use Rattle.vrp_answer.specs.Inner.Conclusion.{AreOpenPieces, IsNoLater, IsVerdict}
use Rattle.vrp_answer.specs.Outcomes.{Search, words_of}
use Rattle.vrp_answer.proofs.BestPlan.{costs_no_more, no_later_transitive}
use Rattle.vrp_answer.proofs.DrawnPieces.{are_apart}
use Rattle.vrp_answer.proofs.Verdicts.{answer_is, best_answered, none_settled}
use Rattle.vrp_answer.proofs.conclusion.conclude.Goals as goal

pub open_book-requires-clause-singles : goal.open_book-requires-clause-singles
open_book-requires-clause-singles g c = c.requires.singles

pub open_book-requires-clause-best : goal.open_book-requires-clause-best
open_book-requires-clause-best g c = subst (λ (plan : Option PricedPlan). ForSome plan (IsPlanOf c.args.shared.now.problem)) (sym c.as_ref.ensures.value) c.requires.searched.best_of

pub note_outcomes-requires : goal.note_outcomes-requires
note_outcomes-requires g c = c.in_ok-book.ensures.plan_of

pub settle_pieces-requires : goal.settle_pieces-requires
settle_pieces-requires g c =
    let s = c.args.shared.now in
    let drawn = c.args.searched.pile.drawn in
    let apart = are_apart s drawn c.args.searched.pile.put c.requires.numbers c.requires.searched.all c.requires.pieces in
    let gathered = c.in_ok-book-2.ensures.all c.requires.searched.least drawn c.requires.searched.kept apart in
    λ k d lt. (gathered.are_left k d lt).1

pub returns-clause-answer : goal.returns-clause-answer
returns-clause-answer g c =
    let s = c.args.shared.now in
    let p = s.problem in
    let singles = c.args.singles in
    let best = c.args.searched.best in
    let put = c.args.searched.pile.put in
    let drawn = c.args.searched.pile.drawn in
    let least = c.requires.searched.least in
    let less = c.plans_cost_less.ensures in
    let problem = subst (λ (t : Search). IsProblem t.problem) c.shared.view_is c.customers-customers.ensures.problem in
    let opened = c.in_ok-book.book.plan in
    let notes = c.in_ok-book-2.field-0 in
    let noted = c.in_ok-book-2.ensures in
    let kept = notes.book.plan in
    let added = notes.gatherer in
    let left = notes.left.items in
    let gathered = noted.all least drawn c.requires.searched.kept (are_apart s drawn put c.requires.numbers c.requires.searched.all c.requires.pieces) in
    let than_singles = no_later_transitive kept opened singles noted.later c.in_ok-book.ensures.than_singles in
    let than_best = no_later_transitive kept opened best noted.later (subst (IsNoLater opened) c.as_ref.ensures.value c.in_ok-book.ensures.than_best) in
    let falls : cost_of kept ≤ least = c.requires.searched.reached (cost_of kept) (costs_no_more less p kept singles problem gathered.plan_of than_singles) (costs_no_more less p kept best problem gathered.plan_of than_best) in
    let known = none_settled s drawn put least kept added left c.requires.numbers c.requires.searched.all c.requires.pieces falls gathered in
    let cost : c.known_cost-cost.result ≡ cost_of kept = c.known_cost-cost.ensures ∙ ap cost_of (c.as_ref-2.ensures.value ∙ c.into_plan-plan.ensures) in
    let settled = c.in_ok-open_pieces.ensures (words_of put) kept (subst (λ n. AreOpenPieces s (words_of put) kept (record { gatherer = added; cost = n; low = n }) left) (sym cost) known) in
    answer_is c.one_piece.ensures c.plans_have_words.ensures less s (words_of put) singles kept c.in_ok-open_pieces.open_pieces c.verdict.result problem c.requires.cutting gathered.plan_of c.requires.some than_singles settled
    (subst (λ (plan : Option PricedPlan). IsVerdict plan c.in_ok-open_pieces.open_pieces c.verdict.result) c.into_plan-plan.ensures c.verdict.ensures)

pub returns-clause-no_costlier : goal.returns-clause-no_costlier
returns-clause-no_costlier g c =
    let s = c.args.shared.now in
    let p = s.problem in
    let drawn = c.args.searched.pile.drawn in
    let problem = subst (λ (t : Search). IsProblem t.problem) c.shared.view_is c.customers-customers.ensures.problem in
    let opened = c.in_ok-book.book.plan in
    let kept = c.in_ok-book-2.field-0.book.plan in
    let noted = c.in_ok-book-2.ensures in
    let apart = are_apart s drawn c.args.searched.pile.put c.requires.numbers c.requires.searched.all c.requires.pieces in
    let gathered = noted.all c.requires.searched.least drawn c.requires.searched.kept apart in
    let than_start = no_later_transitive kept opened s.start_plan noted.later c.in_ok-book.ensures.than_start in
    let falls = costs_no_more c.plans_cost_less.ensures p kept s.start_plan problem gathered.plan_of than_start in
    let verdict = subst (λ (plan : Option PricedPlan). IsVerdict plan c.in_ok-open_pieces.open_pieces c.verdict.result) c.into_plan-plan.ensures c.verdict.ensures in
    subst (λ (plan : Option PricedPlan). cost_of plan ≤ cost_of s.start_plan) (sym (best_answered kept c.in_ok-open_pieces.open_pieces c.verdict.result verdict)) falls
