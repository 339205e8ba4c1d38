-- What a file states, once no line of it is at fault.
use Rattle.std.proofs.Common.{◌≡◌, ℕ, ◌≤◌, false, None, List, length, nat_lt, refl, ◌∙◌, arith}
use Rattle.std.specs.Prelude.{Result, Ok, Err, IfErr}
use Rattle.std.proofs.lemmas.Bool.Decides.{nat_tests}
use Rattle.vrp_text.specs.Line.{lines_of}
use Rattle.vrp_text.specs.Part.{before_end}
use Rattle.vrp_text.specs.declared.lexer.limits.TheConstants.{MAX_BYTES}
use Rattle.vrp_text.specs.Complete.{complete_of}
use Rattle.vrp_text.specs.Meaning.{all_stated, checked, file_line_fault, reading_of}
use Rattle.vrp_text.specs.Refusal.{Refuses}
use Rattle.vrp_text.specs.Stated.{Stated}
use Rattle.vrp_text.specs.declared.error.TextError.{TextError}

not_too_long : (n most : ℕ) → n ≤ most → nat_lt most n ≡ false
not_too_long n most short = grind (arith, nat_tests, short)

pub reading_made : (bytes : List ℕ) (stated : Stated) → length bytes ≤ MAX_BYTES → file_line_fault (before_end (lines_of bytes)) ≡ None → stated ≡ all_stated (before_end (lines_of bytes)) → reading_of bytes ≡ checked (complete_of stated)
reading_made bytes stated short sound is = rw (not_too_long (length bytes) MAX_BYTES short, sound, is) refl

pub refuses_from : {X Y : Type 0} (result : Result X TextError) (read counted : Result Y TextError) → read ≡ counted → IfErr result (λ error. counted ≡ Err error) → Refuses result (λ error. read ≡ Err error)
refuses_from (Ok made) read counted same refused = refused
refuses_from (Err error) read counted same refused = λ differs. same ∙ refused
