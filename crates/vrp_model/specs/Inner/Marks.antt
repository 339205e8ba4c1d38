-- A mark for each node number says whether the node is listed.
use Rattle.std.specs.Prelude.{◌≡◌, ℕ, ◌+◌, ◌≤◌, Bool, false, List, length, slice_index_or}
use Rattle.vrp_model.specs.Request.{is_listed}
use Rattle.vrp_model.specs.declared.limits.TheConstants.{MAX_NODES}

pub record AreMarks (depots : List ℕ) (marks : List Bool) : Type 0 where
  pub room : length marks ≡ MAX_NODES + 1
  pub each : (node : ℕ) → node ≤ MAX_NODES → slice_index_or marks node false ≡ is_listed depots node
