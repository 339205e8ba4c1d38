-- The lines of a CVRP file (TSPLIB 95, section 1): a line begins with a keyword, or has data. A line may have blanks at its
-- front and end, and any number of them between two tokens.
use Rattle.std.specs.Prelude.{ℕ, ◌==◌, nat_lt, if◌then◌else◌, Option, List, length, map, filter, drop, slice_index}
use Rattle.std.specs.List.{slice_split, take_while}
use Rattle.std.specs.Char.{is_ascii_alphabetic}
use Rattle.vrp_text.specs.Bytes.{is_blank, is_keyword_byte, skip_while}
use Rattle.vrp_text.specs.Keyword.{keyword_of}
use Rattle.vrp_text.specs.declared.lexer.keyword.Keyword.{Keyword}

-- the tokens between blanks
abbrev pub tokens_of : List ℕ → List (List ℕ)
tokens_of text = filter (λ token. nat_lt 0 (length token)) (slice_split is_blank text)

-- A blank or empty line has no tokens.
pub data Line : Type 0 where
  -- the meaning of its keyword, if it is known, and the tokens behind the keyword and its colon
  Heading : Option Keyword → List (List ℕ) → Line
  -- its tokens
  Data : List (List ℕ) → Line

-- the text without the one colon that may separate a keyword from its value
abbrev pub without_colon : List ℕ → List ℕ
without_colon text = if slice_index text 0 == 58 then drop 1 text else text

-- A line whose first token begins with a letter begins with a keyword: the longest beginning of letters, digits and
-- underscores.
abbrev pub line_of : List ℕ → Line
line_of text =
    let bare = skip_while is_blank text in
    if is_ascii_alphabetic (slice_index bare 0)
    then Heading (keyword_of (take_while is_keyword_byte bare)) (tokens_of (without_colon (skip_while is_blank (skip_while is_keyword_byte bare))))
    else Data (tokens_of text)

-- the lines between line feeds
abbrev pub lines_of : List ℕ → List Line
lines_of bytes = map line_of (slice_split (λ byte. byte == 10) bytes)
