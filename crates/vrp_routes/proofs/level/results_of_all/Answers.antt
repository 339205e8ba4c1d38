use Rattle.std.proofs.Common.{rules}
use Rattle.vrp_routes.proofs.level.results_of_all.Goals as goal

pub map_vec-requires-after_bounds : goal.map_vec-requires-after_bounds
map_vec-requires-after_bounds g c _ _ = λ i found lt is. (c.requires.level, (c.requires.from, (c.requires.to, (c.requires.few, (c.requires.keyed i found lt is, search rules)))))
