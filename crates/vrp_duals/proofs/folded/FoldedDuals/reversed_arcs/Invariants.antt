use Rattle.std.proofs.Common.{◌≡◌, ◌<◌, ◌≤◌, ◌/◌, ◌%◌, ℕ, pos, get_or, length, unsigned_abs}
use Rattle.std.specs.List.{All}
use Rattle.vrp_duals.specs.Folding.{arc_of}
use Rattle.vrp_duals.specs.declared.limits.TheConstants.{MAX_ARC_PRICE}
use Rattle.vrp_duals.proofs.folded.FoldedDuals.reversed_arcs.Given as goal

abbrev pub invariant-loop-index : goal.invariant-loop-index
invariant-loop-index l = record {
  long : length l.arcs.items ≡ l.index;
  each : (k : ℕ) → k < length l.arcs.items → get_or l.arcs.items k (pos 0) ≡ arc_of l.self (k % l.places) (k / l.places);
  small : All (λ price. unsigned_abs price ≤ MAX_ARC_PRICE) l.arcs.items;
}
