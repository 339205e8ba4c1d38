use Rattle.std.proofs.Common.{◌≡◌, ◌<◌, vec_len}
use Rattle.vrp_heuristic.proofs.giant_tour.place_ranks.Given as goal

abbrev pub invariant-loop-rank : goal.invariant-loop-rank
invariant-loop-rank l = record {
  len : vec_len l.ranks ≡ l.places;
  at : l.at < l.places;
}
