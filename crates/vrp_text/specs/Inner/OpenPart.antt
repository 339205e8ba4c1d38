-- A part that is read up to its keyword: the text behind the keyword and the data lines come next.
use Rattle.std.specs.Prelude.{ℕ, Bool, Option, List}
use Rattle.vrp_text.specs.Inner.LinesLeft.{LinesLeft, data_left}
use Rattle.vrp_text.specs.Line.{tokens_of}
use Rattle.vrp_text.specs.declared.lexer.fault.FileLineFault.{FileLineFault}
use Rattle.vrp_text.specs.declared.lexer.keyword.Keyword.{Keyword}
use Rattle.vrp_text.specs.declared.lexer.lines.Heading.{Heading}
use Rattle.vrp_text.specs.Inner.MarkedKeys.{is_marked}
use Rattle.vrp_text.specs.Inner.StatedSoFar.{fault_of_part, with_keyword, with_part}
use Rattle.vrp_text.specs.Section.{content_of, content_numbers, on_line}
use Rattle.vrp_text.specs.Stated.{Stated, keyword_fault}
use Rattle.vrp_text.specs.declared.error.TextError.{TextError}

-- the fault of a line with this keyword and these bytes behind it, given the keys that earlier lines have
abbrev pub keyword_line_fault : Bool → List Bool → Option Keyword → List ℕ → Option FileLineFault
keyword_line_fault explicit marks keyword behind = keyword_fault explicit (is_marked marks) keyword (tokens_of behind)

-- the fault of a heading's line, given the keys that earlier lines have
abbrev pub heading_fault : Bool → List Bool → Heading → Option FileLineFault
heading_fault explicit marks heading = keyword_line_fault explicit marks heading.keyword heading.behind.now

-- the fault of a heading's line, with the line's number
abbrev pub heading_error : Bool → List Bool → Heading → Option TextError
heading_error explicit marks heading = on_line heading.number (heading_fault explicit marks heading)

-- the statements with those of a heading's line added
abbrev pub with_heading : Bool → Heading → Stated → Stated
with_heading explicit heading stated = with_keyword explicit heading.keyword (tokens_of heading.behind.now) stated

-- the first fault of the part that begins with this heading and continues with the next data lines
abbrev pub open_part_fault : Bool → List Bool → Heading → LinesLeft → Option TextError
open_part_fault explicit marks heading lines =
    fault_of_part explicit (is_marked marks) heading.number heading.keyword (tokens_of heading.behind.now) lines.number (data_left lines)

-- the statements with those of that part added
abbrev pub with_open_part : Bool → Heading → LinesLeft → Stated → Stated
with_open_part explicit heading lines stated =
    with_part explicit heading.keyword (tokens_of heading.behind.now) (content_numbers (content_of explicit heading.keyword) (data_left lines)) stated
