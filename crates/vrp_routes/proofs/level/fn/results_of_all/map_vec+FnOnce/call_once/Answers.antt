use Rattle.vrp_routes.proofs.level.fn.results_of_all.map_vec+FnOnce.call_once.Goals as goal

pub map_vec-requires : goal.map_vec-requires
map_vec-requires g c = assumption c.requires
