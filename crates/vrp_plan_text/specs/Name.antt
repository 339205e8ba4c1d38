-- A file's name for itself (TSPLIB 95, section 1.1).
use Rattle.std.specs.Prelude.{ℕ, ◌-◌, ◌==◌, ◌&&◌, nat_lt, if◌then◌else◌, not, Bool, Option, None, Some, List, codes, length, reverse, take}
use Rattle.std.specs.List.{find, prefix_len, slice_split, take_while}
use Rattle.std.specs.Option.{option_and_then}
use Rattle.std.specs.Str.{bytes_eq, is_utf8}
use Rattle.vrp_text.specs.Bytes.{is_blank, is_keyword_byte, skip_while}
use Rattle.vrp_text.specs.Line.{without_colon}

-- a line begins with this keyword
abbrev pub has_keyword : List ℕ → List ℕ → Bool
has_keyword keyword line = bytes_eq (take_while is_keyword_byte (skip_while is_blank line)) keyword

-- the text without the blanks at its end
abbrev pub trimmed_end : List ℕ → List ℕ
trimmed_end text = take (length text - prefix_len is_blank (reverse text)) text

-- the text behind a line's keyword and colon, without the blanks at both ends
abbrev pub value_on : List ℕ → List ℕ
value_on line = trimmed_end (skip_while is_blank (without_colon (skip_while is_blank (skip_while is_keyword_byte (skip_while is_blank line)))))

-- the first line with the keyword NAME, if there is one before EOF
abbrev pub name_line : List ℕ → Option (List ℕ)
name_line bytes = find (has_keyword (codes "NAME")) (take_while (λ line. not (has_keyword (codes "EOF") line)) (slice_split (λ byte. byte == 10) bytes))

-- a text that is nonempty and UTF-8
abbrev pub as_name : List ℕ → Option (List ℕ)
as_name text = if nat_lt 0 (length text) && is_utf8 text then Some text else None

-- the file's name for itself, if it has one
abbrev pub name_of : List ℕ → Option (List ℕ)
name_of bytes = option_and_then (λ line. as_name (value_on line)) (name_line bytes)
