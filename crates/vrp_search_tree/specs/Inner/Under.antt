-- How a search below a prefix ends.
use Rattle.std.specs.Prelude.{ℕ, Bool, Some, List}
use Rattle.vrp_model.specs.Problem.{Problem}
use Rattle.vrp_search_tree.specs.Search.{EndsSearch}
use Rattle.vrp_search_tree.specs.Low.{IsLow}
use Rattle.vrp_search_tree.specs.declared.piece_search.depth_first.Ended.{Ended}

-- as a piece's search with this word ends, for any tables that give it this low
abbrev pub EndsUnder : Problem → List ℕ → ℕ → ℕ → Bool → ℕ → Ended → Type 0
EndsUnder p root low budget may_stop floor ended = (among : List ℕ) → IsLow p among root (Some low) → EndsSearch p among root budget may_stop floor ended
