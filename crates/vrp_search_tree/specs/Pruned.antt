-- When a plan under a prefix may be of use to a search, and when none is.
use Rattle.std.specs.Prelude.{◌⊎◌, ℕ, ◌≤◌, ◌<◌, Some, List, [], ◌∷◌, ◌++◌}
use Rattle.vrp_model.specs.Problem.{Problem}
use Rattle.vrp_model.specs.Word.{BeginsWith, HasNoCompletion, IsLawfulWord, word_cost}
use Rattle.vrp_search_tree.specs.Partial.{PartialPlan}
use Rattle.vrp_search_tree.specs.Low.{IsLow}
use Rattle.vrp_search_tree.specs.Tally.{IsTally}
use Rattle.vrp_search_tree.specs.declared.tally.Tally.{Tally}

-- each plan under the prefix costs more than this
abbrev pub AllCostMore : Problem → List ℕ → ℕ → Type 0
AllCostMore p prefix cost = (word : List ℕ) → IsLawfulWord p word → BeginsWith word prefix → cost < word_cost p word

-- each plan under the prefix costs more than what was answered, or no less than the plan that this search has found
abbrev pub NoneOfUse : Problem → List ℕ → ℕ → ℕ → Type 0
NoneOfUse p prefix incumbent own_best = (word : List ℕ) → IsLawfulWord p word → BeginsWith word prefix → (incumbent < word_cost p word) ⊎ (own_best ≤ word_cost p word)

-- the prefix is not known to be without completion, and its bound is no more than what was answered, and below the plan that this
-- search has found
pub record MayBeOfUse (p : Problem) (among prefix : List ℕ) (incumbent own_best : ℕ) : Type 0 where
  pub alive : HasNoCompletion p prefix → ⊥
  pub low : ℕ
  pub is_low : IsLow p among prefix (Some low)
  pub no_more : low ≤ incumbent
  pub cheaper : low < own_best

-- a partial plan with one more symbol
abbrev pub with_symbol : PartialPlan → ℕ → PartialPlan
with_symbol at k = record { problem = at.problem; word = at.word ++ k ∷ [] }

-- this is counted along the prefix, and less is paid along it than for the plan that this search has found
pub record IsPromising (p : Problem) (prefix : List ℕ) (own_best : ℕ) (tally : Tally) : Type 0 where
  pub counted : IsTally p prefix tally
  pub cheaper : tally.cost < own_best
