use Rattle.std.proofs.Common.{rules}
use Rattle.vrp_search_tree.proofs.tally.Tally.low.Goals as goal

pub returns : goal.returns
returns c = search rules
