use Rattle.std.proofs.Common.{◌≡◌, sym, subst}
use Rattle.std.specs.Prelude.{IfOk, Result}
use Rattle.std.proofs.lemmas.Result.{err_from_is_err_and}
use Rattle.vrp_text.specs.Complete.{Complete}
use Rattle.vrp_text.specs.Inner.InMemory.{nodes_checked}
use Rattle.vrp_text.specs.declared.error.TextError.{TextError}
use Rattle.vrp_text.proofs.ReadLemmas.{reading_made, refuses_from}
use Rattle.vrp_text.proofs.instance.read_complete.Goals as goal

pub returns-in_err-read_statements-clause-refused : goal.returns-in_err-read_statements-clause-refused
returns-in_err-read_statements-clause-refused c =
    let exit = err_from_is_err_and c.from_residual.result c.from_residual.ensures.1 in
    rw (exit.1, exit.2) c.in_err-read_statements.ensures.refused

pub returns-clause-read : goal.returns-clause-read
returns-clause-read c =
    let stated = c.in_ok-read_statements.ensures in
    let same = reading_made c.args.bytes.now _ stated.short stated.sound stated.read in
    subst (λ (r : Result Complete TextError). IfOk c.counted.result (λ file. r ≡ nodes_checked file)) (sym same) c.counted.ensures.read

pub returns-clause-counted : goal.returns-clause-counted
returns-clause-counted c = c.counted.ensures.counted

pub returns-clause-in_range : goal.returns-clause-in_range
returns-clause-in_range c = c.counted.ensures.in_range

pub returns-clause-refused : goal.returns-clause-refused
returns-clause-refused c =
    let stated = c.in_ok-read_statements.ensures in
    let same = reading_made c.args.bytes.now _ stated.short stated.sound stated.read in
    refuses_from c.counted.result _ _ same c.counted.ensures.refused
