use Rattle.std.proofs.Common.{◌≡◌, ◌≤◌, Option, None, Some, [], refl, subst, sym}
use Rattle.std.specs.Prelude.{IfSome, MatchOption}
use Rattle.vrp_bound.specs.LowerBound.{rounded_up}
use Rattle.vrp_bound.specs.declared.lower_bound.LowerBound.{LowerBound}
use Rattle.vrp_bound_prices.specs.declared.ascent.rounds.FoundPrices.{FoundPrices}
use Rattle.vrp_model.specs.Problem.{Problem}
use Rattle.vrp_model.specs.Word.{NoneCheaperUnder}
use Rattle.vrp_solver.proofs.ascent_bound.bound_by_ascent.Goals as goal

-- where something is found, it is so
some_of : (none : Type 0) (found : Option LowerBound) (is : LowerBound → Type 0) → MatchOption found none is → IfSome found is
some_of none None is known = tt
some_of none (Some bound) is known = known

pub returns : goal.returns
returns g c =
    let p = c.args.shared.now.problem in
    let of : c.in-Some-found.field-0.relaxation.problem ≡ p = subst (λ (o : Option FoundPrices). IfSome o (λ prices. prices.relaxation.problem ≡ p)) c.in-Some-found.is c.in_ok-found.ensures.relaxation in
    let under : NoneCheaperUnder c.in-Some-found.field-0.relaxation.problem [] (rounded_up c.in-Some-2.bound) = subst (λ (o : Option LowerBound). IfSome o (λ bound. NoneCheaperUnder c.in-Some-found.field-0.relaxation.problem [] (rounded_up bound))) c.in-Some-2.is (some_of _ c.in_ok-bound.field-0 (λ bound. NoneCheaperUnder c.in-Some-found.field-0.relaxation.problem [] (rounded_up bound)) c.in_ok-bound.ensures.bound) in
    let none : NoneCheaperUnder p [] c.rounded_up.result = subst (λ n. NoneCheaperUnder p [] n) (sym c.rounded_up.ensures) (subst (λ (q : Problem). NoneCheaperUnder q [] (rounded_up c.in-Some-2.bound)) of under) in
    λ routes lawful. (let (word, is_word, cost, order) = c.plans_have_words.ensures p routes lawful in subst (λ n. c.rounded_up.result ≤ n) cost (none word is_word (word, refl)))
