use Rattle.std.proofs.Common.{◌≡◌, ℕ, ◌/◌, ◌<◌, length}
use Rattle.std.specs.Prelude.{slice_index}
use Rattle.vrp_bound.proofs.quotients.Quotients.up_to.Given as goal

abbrev pub invariant-loop-amount : goal.invariant-loop-amount
invariant-loop-amount l = record {
  counted : length l.whole.items ≡ l.amount;
  each : (k : ℕ) → k < l.amount → slice_index l.whole.items k ≡ k / l.unit;
}
