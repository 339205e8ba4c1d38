-- The invariant of a relaxation: it is one, and its numbers are small.
use Rattle.std.specs.Prelude.{◌≤◌}
use Rattle.vrp_bound_prices.specs.Relaxation.{Bounds, RelaxationOf}
use Rattle.vrp_bound_prices.specs.declared.limits.TheConstants.{MAX_CHARGES, MAX_REWARDS, MAX_SCALE}

pub record IsSmallRelaxation (r : RelaxationOf) : Type 0 where
  pub bounds : Bounds r
  pub some_scale : 1 ≤ r.scale
  pub small_scale : r.scale ≤ MAX_SCALE
  pub small_charges : r.charges ≤ MAX_CHARGES
  pub small_rewards : r.rewards ≤ MAX_REWARDS
