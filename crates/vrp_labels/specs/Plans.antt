-- What the routes of feasible plans have to do with graphs: a plan within a limit has cheap routes alone, if the gap is wide enough, so its
-- arcs stay alive from one graph to the next, whatever dual prices each has.
use Rattle.std.specs.Prelude.{◌≡◌, ◌≤ℤ◌, ◌+ℤ◌, ◌+◌, ◌*◌, ◌-◌, ℕ, ℤ, pos, List}
use Rattle.vrp_duals.specs.Duals.{DualsOf, low_of}
use Rattle.vrp_duals.specs.Folding.{folded_cost}
use Rattle.vrp_labels.specs.Graph.{GraphOf}
use Rattle.vrp_labels.specs.Route.{IsAliveRoute}

-- No route along alive arcs, within the capacity, costs less than -`depth`, and the gap has what the limit is above the lower bound, and the
-- depth once for each other route that there may be.
pub record IsGapFor (d : DualsOf) (g : GraphOf) (customers limit : ℕ) (gap : ℤ) : Type 0 where
  pub depth : ℕ
  pub least : (route : List ℕ) → IsAliveRoute g route → pos 0 ≤ℤ (folded_cost g.folded route +ℤ pos depth)
  pub covers : pos (d.scale * limit + (customers - 1) * depth) ≤ℤ (low_of d +ℤ gap)

-- the same places, demands, capacity and alive arcs, maybe with other dual prices and ng-sets
pub record IsAlike (g next : GraphOf) : Type 0 where
  pub places : g.folded.places ≡ next.folded.places
  pub demands : g.demands ≡ next.demands
  pub capacity : g.capacity ≡ next.capacity
  pub followers : g.followers ≡ next.followers
