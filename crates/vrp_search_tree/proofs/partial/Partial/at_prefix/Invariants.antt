use Rattle.std.proofs.Common.{◌≡◌, take}
use Rattle.vrp_search_tree.proofs.partial.Partial.at_prefix.Given as goal

abbrev pub invariant-loop-symbol : goal.invariant-loop-symbol
invariant-loop-symbol l = record {
  word : l.partial ≡ record { problem = l.instance; word = take l.symbol-index l.prefix };
}
