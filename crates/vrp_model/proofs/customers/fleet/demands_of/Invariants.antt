use Rattle.std.proofs.Common.{◌≡◌, ℕ, ◌-◌, ◌^◌, ◌<◌, length, min, slice_index}
use Rattle.vrp_model.specs.Problem.{demand_of}
use Rattle.vrp_model.proofs.customers.fleet.demands_of.Given as goal

abbrev pub invariant-loop-place : goal.invariant-loop-place
invariant-loop-place l = (length l.demands.items ≡ l.place) × ((k : ℕ) → k < l.place → slice_index l.demands.items k ≡ min (demand_of l.instance k) (2 ^ 32 - 1))
