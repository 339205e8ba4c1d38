use Rattle.std.proofs.Common.{◌≡◌, ℕ, ◌<◌, ◌≤◌, [], length, get_or, take}
use Rattle.vrp_routes.proofs.sequences.Sequences.push_stops.Given as goal

-- the sequence of the stops so far was added, and those before are as they were
abbrev pub invariant-loop-stop : goal.invariant-loop-stop
invariant-loop-stop l = record {
  longer : length l.fn.self ≤ length l.self;
  kept : (number : ℕ) → number < length l.fn.self → get_or l.self number [] ≡ get_or l.fn.self number [];
  within : l.number < length l.self;
  stops : get_or l.self l.number [] ≡ take l.stop-index l.stops;
}
