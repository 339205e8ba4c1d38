-- The places of a file's nodes.
use Rattle.std.specs.Prelude.{◌≡◌, ℕ, ◌+◌, ◌≤◌, ◌<◌, false, not, List, ◌∷◌, length, filter, slice_index}
use Rattle.std.specs.List.{range_with_len}
use Rattle.vrp_model.specs.Request.{is_listed}

-- the depot, and the customers among this many nodes
pub record ArePlaces (depots : List ℕ) (depot nodes : ℕ) (places : List ℕ) : Type 0 where
  pub value : places ≡ depot ∷ filter (λ node. not (is_listed depots node)) (range_with_len 1 nodes)
  pub some : 1 ≤ length places
  pub few : length places ≤ nodes + 1
  -- the depot is not a customer, so from its node on there is one place less
  pub fewer : depot ≤ nodes → length places ≤ nodes
  pub depot_first : slice_index places 0 ≡ depot
  pub from_one : (k : ℕ) → k < length places → 1 ≤ slice_index places k
  pub within : (k : ℕ) → 0 < k → slice_index places k ≤ nodes
  pub unlisted : (k : ℕ) → 0 < k → k < length places → is_listed depots (slice_index places k) ≡ false
