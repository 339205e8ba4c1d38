use Rattle.vrp_routes.proofs.level.parts_of_all.Goals as goal

pub map_vec-requires-after_bounds : goal.map_vec-requires-after_bounds
map_vec-requires-after_bounds g c _ _ = λ i found lt is _ _ _ _ _ _ _. c.requires.keyed i found lt is
