-- Graphs with each arc turned round: where costs are not the same from either end, their labels are those of beginnings.
use Rattle.std.specs.Prelude.{◌≡◌, ◌<◌, ℕ, ℤ, List, length, slice_index}
use Rattle.std.specs.Int.{bit_at}
use Rattle.vrp_duals.specs.Folding.{AreReversed}
use Rattle.vrp_labels.specs.Closing.{AreKept}
use Rattle.vrp_labels.specs.Graph.{GraphOf}
use Rattle.vrp_labels.specs.Label.{IsClosed}
use Rattle.vrp_labels.specs.declared.label.Label.{Label}

-- each arc costs what the arc the other way costs, and is alive if that is; the rest is the same
pub record IsReversed (g reversed : GraphOf) : Type 0 where
  pub prices : AreReversed g.folded reversed.folded
  pub demands : reversed.demands ≡ g.demands
  pub capacity : reversed.capacity ≡ g.capacity
  pub near : reversed.near ≡ g.near
  pub followers : (from to : ℕ) → from < g.folded.places → to < g.folded.places
      → bit_at (slice_index reversed.followers from) to ≡ bit_at (slice_index g.followers to) from

-- for each place those from which the arc to it is alive
pub record AreLeaders (g : GraphOf) (leaders : List ℕ) : Type 0 where
  pub long : length leaders ≡ g.folded.places
  pub each : (to from : ℕ) → to < g.folded.places → from < g.folded.places
      → bit_at (slice_index leaders to) from ≡ bit_at (slice_index g.followers from) to

-- labels that were closed in the graph with each arc turned round
pub record IsClosedReversed (g : GraphOf) (gap : ℤ) (beginnings : List (List Label)) : Type 0 where
  pub reversed : GraphOf
  pub is : IsReversed g reversed
  pub are_kept : AreKept reversed beginnings
  pub closed : IsClosed reversed gap beginnings
