-- The classes of bytes in a CVRP file, and runs of them.
use Rattle.std.specs.Prelude.{ℕ, Bool, ◌||◌, ◌==◌, List, drop}
use Rattle.std.specs.List.{prefix_len}
use Rattle.std.specs.Char.{is_ascii_alphanumeric}

-- a space, a tab or a carriage return
abbrev pub is_blank : ℕ → Bool
is_blank byte = (byte == 32 || byte == 9) || byte == 13

-- a letter, a digit or an underscore
abbrev pub is_keyword_byte : ℕ → Bool
is_keyword_byte byte = is_ascii_alphanumeric byte || byte == 95

-- the rest behind the leading bytes that pass
abbrev pub skip_while : (ℕ → Bool) → List ℕ → List ℕ
skip_while test text = drop (prefix_len test text) text
