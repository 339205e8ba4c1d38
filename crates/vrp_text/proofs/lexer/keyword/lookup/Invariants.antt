use Rattle.std.proofs.Common.{◌≡◌, drop}
use Rattle.std.specs.Map.{lookup}
use Rattle.std.specs.Str.{bytes_eq}
use Rattle.vrp_text.specs.Inner.WordTable.{words_of}
use Rattle.vrp_text.proofs.lexer.keyword.lookup.Given as goal

abbrev pub invariant-loop-name : goal.invariant-loop-name
invariant-loop-name l = lookup (bytes_eq l.word) (words_of (drop l.name-index l.table)) ≡ lookup (bytes_eq l.word) (words_of l.table)
