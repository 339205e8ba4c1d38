use Rattle.vrp_routes.proofs.level.fn.results_of_all.map_vec+FnMut.call_mut.Goals as goal

pub map_vec-requires : goal.map_vec-requires
map_vec-requires g c = assumption c.requires
