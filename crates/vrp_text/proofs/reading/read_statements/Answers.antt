use Rattle.std.proofs.Common.{◌≡◌, IfOk, List, refl, subst, ◌∙◌}
use Rattle.vrp_text.specs.Line.{lines_of}
use Rattle.vrp_text.specs.Meaning.{all_stated}
use Rattle.vrp_text.specs.Part.{Part, before_end, parts_from}
use Rattle.vrp_text.specs.Stated.{Stated, is_explicit, stated_by}
use Rattle.vrp_text.specs.Inner.LinesLeft.{parts_left}
use Rattle.vrp_text.proofs.reading.read_statements.Goals as goal

pub returns-clause-read : goal.returns-clause-read
returns-clause-read c =
    let all : List Part = parts_from 1 (before_end (lines_of c.args.bytes.now)) in
    let same : parts_left c.pass_no_data.new.lines ≡ all = c.in_ok-pass_no_data.ensures.passed ∙ (rw c.of-lines.ensures.number (rw c.of-lines.ensures.lines refl)) in
    let kind : c.is_explicit-explicit.result ≡ is_explicit all = c.is_explicit-explicit.ensures ∙ (rw c.of.ensures.number (rw c.of.ensures.lines refl)) in
    let stated : stated_by c.is_explicit-explicit.result (parts_left c.pass_no_data.new.lines) ≡ all_stated (before_end (lines_of c.args.bytes.now)) = rw kind (rw same refl) in
    let P : Stated → Type 0 = λ s. IfOk c.read_parts.result (λ statements. statements ≡ s) in
    subst P stated c.read_parts.ensures.read
