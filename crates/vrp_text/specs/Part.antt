-- The parts of a CVRP file: a line with a keyword, and the data lines behind it up to the next keyword.
use Rattle.std.specs.Prelude.{ℕ, ◌+◌, Bool, true, false, Option, Some, None, List, [], ◌∷◌, if◌then◌else◌}
use Rattle.vrp_text.specs.Line.{Line, Heading, Data}
use Rattle.vrp_text.specs.declared.lexer.keyword.Keyword.{Keyword}
use Rattle.vrp_text.specs.declared.lexer.keyword.Keyword.TheVariants as keyword

abbrev pub ends_file : Option Keyword → Bool
ends_file None = false
ends_file (Some keyword.End) = true
ends_file (Some keyword.Remark) = false
ends_file (Some keyword.Display) = false
ends_file (Some keyword.Unsupported) = false
ends_file (Some (keyword.Key key)) = false

-- the lines before EOF
abbrev pub before_end : List Line → List Line
before_end [] = []
before_end (Data tokens ∷ lines) = Data tokens ∷ before_end lines
before_end (Heading keyword tokens ∷ lines) = if ends_file keyword then [] else Heading keyword tokens ∷ before_end lines

pub record Part : Type 0 where
  -- the number of the keyword's line; the first line is line 1
  pub line : ℕ
  -- the meaning of its keyword, if it is known
  pub keyword : Option Keyword
  -- the tokens behind the keyword
  pub behind : List (List ℕ)
  -- the tokens of each data line, one line after the other
  pub data_lines : List (List (List ℕ))

-- the data lines up to the first keyword
abbrev pub leading_data : List Line → List (List (List ℕ))
leading_data [] = []
leading_data (Data tokens ∷ lines) = tokens ∷ leading_data lines
leading_data (Heading keyword tokens ∷ lines) = []

-- the parts of these lines, the first of which has this number
abbrev pub parts_from : ℕ → List Line → List Part
parts_from number [] = []
parts_from number (Data tokens ∷ lines) = parts_from (number + 1) lines
parts_from number (Heading keyword tokens ∷ lines) =
    record { line = number; keyword = keyword; behind = tokens; data_lines = leading_data lines } ∷ parts_from (number + 1) lines
