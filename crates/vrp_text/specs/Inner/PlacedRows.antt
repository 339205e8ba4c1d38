-- The rows of nodes while they are sorted by node.
use Rattle.std.specs.Prelude.{◌≡◌, ℕ, ◌+◌, ◌<◌, ℤ, pos, Bool, true, false, List, [], length, take, drop, get_or, set}
use Rattle.std.specs.List.{list_any, position_or_len}
use Rattle.std.specs.Ordering.{int_eq}
use Rattle.vrp_text.specs.Complete.{bad_node}

-- the value beside a node, from its first row
abbrev pub beside_node : {X : Type 0} → X → List ℤ → List X → ℕ → X
beside_node absent given beside node = get_or beside (position_or_len (int_eq (pos node)) given) absent

-- This many rows are entered at their nodes' positions; a mark for each node says whether it is given.
pub record ArePlaced {X : Type 0} (absent : X) (nodes : ℕ) (given : List ℤ) (beside : List X) (rows : ℕ) (marks : List Bool) (placed : List X) : Type 0 where
  pub fault : bad_node nodes [] given ≡ bad_node nodes (take rows given) (drop rows given)
  pub mark_each : length marks ≡ nodes
  pub place_each : length placed ≡ nodes
  pub marked : (k : ℕ) → k < nodes → get_or marks k false ≡ list_any (int_eq (pos (k + 1))) (take rows given)
  pub at_place : (k : ℕ) → k < nodes → get_or placed k absent ≡ beside_node absent (take rows given) (take rows beside) (k + 1)

-- the number is not a node, or its node is marked
abbrev pub IsGivenOrNone : List Bool → ℤ → Type 0
IsGivenOrNone marks number = (k : ℕ) → k < length marks → number ≡ pos (k + 1) → get_or marks k false ≡ true

-- the number is the node of this position, which was not marked before and is now
abbrev pub IsGivenFirst : List Bool → ℤ → ℕ → List Bool → Type 0
IsGivenFirst old number place new =
    (place < length old) × (number ≡ pos (place + 1)) × (get_or old place false ≡ false) × (new ≡ set old place true)
