use Rattle.std.proofs.Common.{◌≡◌, SFits, to_z, of_z, w64, ap, sym, ◌∙◌, length, arith, rules}
use Rattle.std.proofs.lemmas.Int.{ints}
use Rattle.std.proofs.lemmas.Result.{err_from_is_err_and}
use Rattle.vrp_text.specs.Section.{token_number, fault_of, on_line}
use Rattle.vrp_text.proofs.SectionLemmas.{one_more, token_refused}
use Rattle.vrp_text.proofs.section.read_line.Goals as goal

pub loop-token-preserved : goal.loop-token-preserved
loop-token-preserved c =
    let fits : SFits w64 c.in_ok-number_on.field-0 = search rules in
    let word : to_z w64 (of_z w64 c.in_ok-number_on.field-0) ≡ c.in_ok-number_on.field-0 = omega (arith, ints, fits) in
    let place : c.len.result ≡ length c.loop-token.numbers.items = search rules in
    rw c.in_ok-push.ensures.items (rw word
    (one_more c.args.section _ _ c.loop-token.numbers.items c.loop-token.tokens c.in-Some.token.now c.next.new.self c.in_ok-number_on.field-0 c.loop-token.invariant c.in-Some.ensures
    (sym c.in_ok-number_on.ensures.value ∙ ap (λ at. token_number c.args.section at c.in-Some.token.now) place)))

pub returns-in_err-number_on-clause-refused : goal.returns-in_err-number_on-clause-refused
returns-in_err-number_on-clause-refused c =
    let exit = err_from_is_err_and c.from_residual.result c.from_residual.ensures.1 in
    let place : c.len.result ≡ length c.loop-token.numbers.items = search rules in
    let bad = ap (λ at. on_line c.args.number (fault_of (token_number c.args.section at c.in-Some.token.now))) (sym place) ∙ c.in_err-number_on.ensures.refused in
    rw (exit.1, exit.2) (λ _. token_refused c.args.section c.args.number _ _ c.loop-token.numbers.items c.loop-token.tokens c.in-Some.token.now c.next.new.self c.in_err-number_on.field-0.0 c.loop-token.invariant c.in-Some.ensures bad)
