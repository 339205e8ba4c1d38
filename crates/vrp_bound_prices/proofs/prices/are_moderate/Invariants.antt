use Rattle.std.proofs.Common.{ℕ, ◌≤◌, ◌<◌}
use Rattle.vrp_bound_prices.specs.Priced.{price_in, rebate_in}
use Rattle.vrp_bound_prices.specs.declared.limits.TheConstants.{MAX_PRICE, MAX_REBATE}
use Rattle.vrp_bound_prices.proofs.prices.are_moderate.Given as goal

abbrev pub invariant-loop-place : goal.invariant-loop-place
invariant-loop-place l = (place : ℕ) → place < l.place → (price_in l.prices place ≤ MAX_PRICE) × (rebate_in l.prices place ≤ MAX_REBATE)
