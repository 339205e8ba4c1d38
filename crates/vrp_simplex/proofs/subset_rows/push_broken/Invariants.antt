use Rattle.vrp_simplex.proofs.subset_rows.push_broken.Given as goal

abbrev pub decreases-loop-first : goal.decreases-loop-first
decreases-loop-first l = l.later
