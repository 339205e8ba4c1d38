use Rattle.std.proofs.Common.{◌≡◌, ℕ, ◌≤◌, ◌*◌, take, map, slice_index, vec_len, length}
use Rattle.std.specs.List.{flat_map}
use Rattle.vrp_model.specs.Grid.{entry_at}
use Rattle.vrp_model.proofs.places.weights_between.Given as goal

abbrev pub invariant-loop-from : goal.invariant-loop-from
invariant-loop-from l =
    (l.entries.items ≡ flat_map (λ from. map (entry_at l.weights from) l.places) (take l.from-index l.places))
    × (vec_len l.entries ≡ l.from-index * length l.places)
    × ((k : ℕ) → slice_index l.entries.items k ≤ 1000000000)
