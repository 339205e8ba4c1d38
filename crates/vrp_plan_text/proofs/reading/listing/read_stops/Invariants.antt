use Rattle.std.proofs.Common.{◌≡◌, ◌++◌, Ok, length, map, pos}
use Rattle.vrp_plan_text.specs.Solution.{AreCustomers}
use Rattle.vrp_plan_text.specs.Inner.Read.{stops_written}
use Rattle.vrp_plan_text.proofs.reading.listing.read_stops.Given as goal

abbrev pub invariant-loop-token : goal.invariant-loop-token
invariant-loop-token l = record {
  written : stops_written l.initial.tokens ≡ map (λ stop. Ok (pos stop)) l.stops.items ++ stops_written l.tokens;
  customers : AreCustomers l.instance l.stops.items;
}

abbrev pub decreases-loop-token : goal.decreases-loop-token
decreases-loop-token l = length l.tokens
