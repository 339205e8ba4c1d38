use Rattle.std.proofs.Common.{◌≡◌, take}
use Rattle.vrp_search_tree.proofs.lawful.pushed_plan.Given as goal

abbrev pub invariant-loop-symbol : goal.invariant-loop-symbol
invariant-loop-symbol l = record {
  problem : l.partial.problem ≡ l.initial.partial.problem;
  word : l.partial.word ≡ take l.symbol-index l.word;
}
