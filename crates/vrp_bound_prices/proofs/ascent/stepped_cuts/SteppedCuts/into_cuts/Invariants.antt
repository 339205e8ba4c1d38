use Rattle.std.proofs.Common.{◌≤◌, vec_len}
use Rattle.std.specs.List.{All}
use Rattle.vrp_bound_prices.specs.CapacityCut.{IsCut}
use Rattle.vrp_bound_prices.specs.declared.limits.TheConstants.{MAX_CUTS}
use Rattle.vrp_bound_prices.proofs.ascent.stepped_cuts.SteppedCuts.into_cuts.Given as goal

abbrev pub invariant-loop-cut : goal.invariant-loop-cut
invariant-loop-cut l = record { cuts : All (IsCut l.instance) l.cuts.items; few : vec_len l.cuts ≤ MAX_CUTS }
