use Rattle.std.proofs.Common.{◌≤◌, ◌<◌, ℕ, get_or}
use Rattle.vrp_bound.specs.declared.arc.Arc.{Arc}
use Rattle.vrp_bound.proofs.arcs.take_least.Given as goal

abbrev pub invariant-loop-index : goal.invariant-loop-index
invariant-loop-index l = record {
  within : l.least < l.index;
  least : (k : ℕ) (d : Arc) → k < l.index → (get_or l.arcs.items l.least d).weight ≤ (get_or l.arcs.items k d).weight;
}
