use Rattle.std.proofs.Common.{◌≡◌, ◌∙◌, ◌+◌, List, length, ap, subst, sym, rules}
use Rattle.std.specs.Prelude.{◌↔◌, IfOk, IsTrue, is_some}
use Rattle.vrp_model.specs.Cheapest.{cost_of}
use Rattle.vrp_model.specs.Problem.{HasTrucks, customers}
use Rattle.vrp_search_tree.specs.Cutting.{AreNumbered, IsCutting, NumberedWord}
use Rattle.vrp_answer.specs.Answer.{IsAnswer}
use Rattle.vrp_answer.specs.Outcomes.{IsSearched, Search, words_of}
use Rattle.vrp_solver.specs.Inner.Workers.{AreNewCallers}
use Rattle.vrp_solver.proofs.Closings.{all_searched}
use Rattle.vrp_solver.proofs.NewCallers.{are_prefixes, many_callers, new_callers}
use Rattle.vrp_solver.proofs.pieces.solve_pile.Goals as goal

pub searched_by_all-requires-clause-prefixes : goal.searched_by_all-requires-clause-prefixes
searched_by_all-requires-clause-prefixes g c κs within = are_prefixes c.args.shared.now c.args.owner.put c.requires.cutting

pub searched_by_all-requires-clause-callers : goal.searched_by_all-requires-clause-callers
searched_by_all-requires-clause-callers g c κs within =
    let register = c.in_ok-register.register in
    subst (AreNewCallers register) (sym c.in_ok-register.ensures.callers) (new_callers register (cost_of c.in_ok-opening.opening) (c.len.result + 1))

pub searched_by_all-requires-clause-as_many : goal.searched_by_all-requires-clause-as_many
searched_by_all-requires-clause-as_many g c =
    let register = c.in_ok-register.register in
    let many : length c.in_ok-register.callers.items ≡ c.len.result + 1 = ap length c.in_ok-register.ensures.callers ∙ many_callers register _ _ in
    search (rules, many)

pub searched_by_all-requires-clause-all : goal.searched_by_all-requires-clause-all
searched_by_all-requires-clause-all g c =
    let register = c.in_ok-register.register in
    let many : length c.in_ok-register.callers.items ≡ c.len.result + 1 = ap length c.in_ok-register.ensures.callers ∙ many_callers register _ _ in
    search (rules, many)

pub conclude-answer-requires-clause-searched : goal.conclude-answer-requires-clause-searched
conclude-answer-requires-clause-searched g c =
    let same : c.in_ok-opening.opening ≡ c.in_ok-singles.singles = c.in_ok-opening.ensures ∙ c.as_ref.ensures.value in
    let opens : c.in_ok-register.register.opening ≡ cost_of c.in_ok-singles.singles = c.in_ok-register.ensures.opening ∙ ap cost_of same in
    let searched = c.in_ok-callers.searched in
    let (history, is, long, least) = c.close-book.ensures.history in
    let all = all_searched c.args.shared.now c.in_ok-register.register c.in_ok-callers.callers.items searched history c.in_ok-callers.ensures.back is in
    subst (λ n. IsSearched c.args.shared.now n searched) opens all

pub searched_by_all-requires-clause-pile : goal.searched_by_all-requires-clause-pile
searched_by_all-requires-clause-pile g c κs within = c.requires.pile

pub conclude-answer-requires-clause-cutting : goal.conclude-answer-requires-clause-cutting
conclude-answer-requires-clause-cutting g c = subst (λ (put : List NumberedWord). IsCutting c.args.shared.now.problem (words_of put)) (sym c.in_ok-callers.ensures.put) c.requires.cutting

pub conclude-answer-requires-clause-numbers : goal.conclude-answer-requires-clause-numbers
conclude-answer-requires-clause-numbers g c = subst AreNumbered (sym c.in_ok-callers.ensures.put) c.requires.pile.numbers

pub conclude-answer-requires-clause-pieces : goal.conclude-answer-requires-clause-pieces
conclude-answer-requires-clause-pieces g c = c.requires.pieces ∙ ap length (sym c.in_ok-callers.ensures.put)

pub conclude-answer-requires-clause-some : goal.conclude-answer-requires-clause-some
conclude-answer-requires-clause-some g c = subst (λ (t : Search). IsTrue (is_some c.in_ok-singles.singles) ↔ HasTrucks t.problem (length (customers t.problem))) c.shared.view_is c.in_ok-singles.ensures.some

pub returns-clause-answer : goal.returns-clause-answer
returns-clause-answer g c = subst (λ (put : List NumberedWord). IfOk c.conclude-answer.result (IsAnswer c.args.shared.now.problem (words_of put) c.args.shared.now.budget c.args.shared.now.may_stop)) c.in_ok-callers.ensures.put c.conclude-answer.ensures.answer
