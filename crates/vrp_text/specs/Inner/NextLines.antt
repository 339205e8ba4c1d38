-- The numbers in the next data lines, up to the next keyword, and the faults there.
use Rattle.std.specs.Prelude.{ℕ, ℤ, Option, List, length, ◌++◌}
use Rattle.vrp_text.specs.Inner.LinesLeft.{LinesLeft, data_left}
use Rattle.vrp_text.specs.Line.{tokens_of}
use Rattle.vrp_text.specs.declared.lexer.fault.FileLineFault.{FileLineFault}
use Rattle.vrp_text.specs.Section.{token_number, fault_of, tokens_fault, on_line, numbers_from, data_fault, data_numbers, outside_fault, content_fault, content_numbers}
use Rattle.vrp_text.specs.declared.error.TextError.{TextError}
use Rattle.vrp_text.specs.declared.section.Content.{Content}
use Rattle.vrp_text.specs.declared.section.Section.{Section}

-- the fault of a token on this line, at this position in a section
abbrev pub token_error : Section → ℕ → ℕ → List ℕ → Option TextError
token_error section line place token = on_line line (fault_of (token_number section place token))

-- the first fault of a line's text, after these numbers of the section
abbrev pub text_fault : Section → List ℤ → List ℕ → Option FileLineFault
text_fault section before text = tokens_fault section (length before) (tokens_of text)

-- the first fault of a line's text, with the line's number
abbrev pub text_error : Section → ℕ → List ℤ → List ℕ → Option TextError
text_error section line before text = on_line line (text_fault section before text)

-- these numbers, followed by those of a line's text
abbrev pub with_text : Section → List ℤ → List ℕ → List ℤ
with_text section before text = before ++ numbers_from section (length before) (tokens_of text)

-- the first fault of the next data lines, which belong to a section
abbrev pub next_data_fault : Section → LinesLeft → Option TextError
next_data_fault section lines = data_fault section lines.number 0 (data_left lines)

-- the numbers of the next data lines, which belong to a section
abbrev pub next_numbers : Section → LinesLeft → List ℤ
next_numbers section lines = data_numbers section 0 (data_left lines)

-- the first of the next data lines that is not blank, if none may have data
abbrev pub next_outside_fault : LinesLeft → Option TextError
next_outside_fault lines = outside_fault lines.number (data_left lines)

-- the first fault of the next data lines, which may have this content
abbrev pub next_content_fault : Content → LinesLeft → Option TextError
next_content_fault content lines = content_fault content lines.number (data_left lines)

-- the used numbers of the next data lines, which may have this content
abbrev pub next_used_numbers : Content → LinesLeft → List ℤ
next_used_numbers content lines = content_numbers content (data_left lines)
