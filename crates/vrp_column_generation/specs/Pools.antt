-- What pools are complete for.
use Rattle.std.specs.Prelude.{ℕ}
use Rattle.vrp_model.specs.Problem.{Problem}
use Rattle.vrp_routes.specs.Pool.{IsPool, IsPoolIn}
use Rattle.vrp_routes.specs.Range.{HaveAll, plans_within}
use Rattle.vrp_column_generation.specs.declared.pools.LeafPools.{LeafPools}
use Rattle.vrp_column_generation.specs.declared.pools.Pools.{Pools}
use Rattle.vrp_column_generation.specs.declared.pools.Pools.TheVariants.{Whole, Leaves}

-- each pool is complete for the plans of its leaf, and together the leaves have all plans within the limit
pub record AreLeafPools (p : Problem) (limit : ℕ) (pools : LeafPools) : Type 0 where
  pub few : IsPoolIn p pools.leaves.few pools.few
  pub many : IsPoolIn p pools.leaves.many pools.many
  pub all : HaveAll (plans_within limit) pools.leaves.few pools.leaves.many

-- the pools have each route of the canonical plan, if that costs no more than the limit
abbrev pub ArePools : Problem → ℕ → Pools → Type 0
ArePools p limit (Whole pool) = IsPool p limit pool
ArePools p limit (Leaves pools) = AreLeafPools p limit pools
