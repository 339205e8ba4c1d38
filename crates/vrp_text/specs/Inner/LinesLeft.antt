-- The rest of a CVRP file while it is read.
use Rattle.std.specs.Prelude.{ℕ, Bool, List, [], ◌∷◌, if◌then◌else◌}
use Rattle.vrp_text.specs.Line.{Line, Heading, Data}
use Rattle.vrp_text.specs.Part.{Part, before_end, ends_file, leading_data, parts_from}

-- the remaining lines, and the number of the first of them
pub record LinesLeft : Type 0 where
  pub number : ℕ
  pub lines : List Line

-- the lines from this number on, up to EOF; none once the file has ended
abbrev pub lines_left : ℕ → List Line → Bool → LinesLeft
lines_left number lines ended = record { number = number; lines = if ended then [] else before_end lines }

abbrev pub parts_left : LinesLeft → List Part
parts_left left = parts_from left.number left.lines

abbrev pub data_left : LinesLeft → List (List (List ℕ))
data_left left = leading_data left.lines

-- the lines before EOF, when this line precedes those before EOF
abbrev pub line_before : Line → List Line → List Line
line_before (Data tokens) lines = Data tokens ∷ lines
line_before (Heading keyword tokens) lines = if ends_file keyword then [] else Heading keyword tokens ∷ lines
