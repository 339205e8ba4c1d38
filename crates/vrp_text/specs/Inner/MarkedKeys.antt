-- A set of keys, as marks.
use Rattle.std.specs.Prelude.{◌≡◌, ◌||◌, ◌==◌, Bool, false, slice_index_or, Option, List}
use Rattle.vrp_text.specs.Keyword.{rank}
use Rattle.vrp_text.specs.declared.lexer.key.Key.{Key}
use Rattle.vrp_text.specs.declared.lexer.keyword.Keyword.{Keyword}
use Rattle.vrp_text.specs.Stated.{is_same_key}

-- whether a key is marked; the list has a mark for each key, by its rank
abbrev pub is_marked : List Bool → Key → Bool
is_marked marks key = slice_index_or marks (rank key) false

-- this key is marked, in addition to the old ones
abbrev pub AddsKey : List Bool → Key → List Bool → Type 0
AddsKey old key new = (other : Key) → is_marked new other ≡ (is_marked old other || rank other == rank key)

-- the key of a keyword is marked, if it has one, in addition to the old ones
abbrev pub AddsKeyOf : List Bool → Option Keyword → List Bool → Type 0
AddsKeyOf old keyword new = (key : Key) → is_marked new key ≡ (is_marked old key || is_same_key key keyword)
