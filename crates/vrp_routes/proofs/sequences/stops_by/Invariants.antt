use Rattle.std.proofs.Common.{◌≡◌, ◌≤◌, ◌++◌, [], length, get_or, reverse}
use Rattle.vrp_routes.specs.Sequences.{sequences_by}
use Rattle.vrp_routes.proofs.sequences.stops_by.Given as goal

-- what stands before the stops so far is what the sequence has
abbrev pub invariant-loop-number : goal.invariant-loop-number
invariant-loop-number l = record {
  within : l.number ≤ length l.steps;
  is : get_or (sequences_by l.steps) l.fn.number [] ≡ get_or (sequences_by l.steps) l.number [] ++ reverse l.stops.items;
}

abbrev pub decreases-loop-number : goal.decreases-loop-number
decreases-loop-number l = l.number
