use Rattle.std.proofs.Common.{sym, ◌∙◌}
use Rattle.bench.proofs.search.measure_search.Goals as goal

pub search_all-requires-clause-board : goal.search_all-requires-clause-board
search_all-requires-clause-board g c plan is = c.in_ok-heuristic_plan.ensures plan (sym c.open-board.ensures ∙ is)
