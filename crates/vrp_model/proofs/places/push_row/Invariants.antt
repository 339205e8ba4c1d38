use Rattle.std.proofs.Common.{◌≡◌, ℕ, ◌≤◌, ◌++◌, take, map, slice_index}
use Rattle.vrp_model.specs.Grid.{entry_at}
use Rattle.vrp_model.proofs.places.push_row.Given as goal

abbrev pub invariant-loop-to : goal.invariant-loop-to
invariant-loop-to l = (l.entries.items ≡ l.initial.entries.items ++ map (entry_at l.weights l.from) (take l.to-index l.places)) × ((k : ℕ) → slice_index l.entries.items k ≤ 1000000000)
