use Rattle.std.proofs.Common.{◌≡◌, ◌≤◌, ◌+◌, ◌*◌, ◌-◌, length}
use Rattle.vrp_search_tree.proofs.SearchProgress.{Progress}
use Rattle.vrp_search_tree.proofs.piece_search.depth_first.search_under.Given as goal

abbrev pub invariant-loop-spending : goal.invariant-loop-spending
invariant-loop-spending g l = record {
  problem : l.partial.problem ≡ l.fn.partial.problem;
  progress : Progress l.fn.partial.problem l.fn.partial.word l.partial.word l.next l.spending.spent (g.B.Board.floor l.board) l.found.plan;
  serves : g.B.Board.serves l.board l.fn.partial.problem;
  keeps : (earlier : _) → g.B.Board.keeps earlier l.fn.board → g.B.Board.keeps earlier l.board;
  falls : g.B.Board.floor l.board ≤ g.B.Board.floor l.fn.board;
  some : 1 ≤ l.spending.spent;
  budget : l.spending.budget ≡ l.budget;
  within : l.spending.spent ≤ l.budget;
}

abbrev pub decreases-loop-spending : goal.decreases-loop-spending
decreases-loop-spending g l = 2 * (l.budget - l.spending.spent) + length l.partial.word
