-- How the search of a piece ends, and what then holds for the words under its prefix.
use Rattle.std.specs.Prelude.{◌≡◌, ◌⊎◌, ℕ, ◌+◌, ◌≤◌, ◌<◌, Bool, IsTrue, MatchOption, Option, Some, List}
use Rattle.std.specs.Option.{ForSome}
use Rattle.vrp_model.specs.Problem.{Problem}
use Rattle.vrp_model.specs.Order.{ComesBefore}
use Rattle.vrp_model.specs.Route.{IsPlanOf, PricedPlan}
use Rattle.vrp_model.specs.Word.{BeginsWith, IsLawfulWord, NoneCheaperUnder, TreeHasAtLeast, word_cost, word_of}
use Rattle.vrp_search_tree.specs.Low.{IsLow}
use Rattle.vrp_search_tree.specs.declared.piece_search.depth_first.Ended.{Ended}
use Rattle.vrp_search_tree.specs.declared.piece_search.depth_first.Ended.TheVariants.{Finished, Unfinished}

-- a feasible plan with its true cost, whose word is a feasible word under the prefix
pub record IsFoundUnder (p : Problem) (prefix : List ℕ) (plan : PricedPlan) : Type 0 where
  pub plan_of : IsPlanOf p plan
  pub word : IsLawfulWord p (word_of plan.routes)
  pub under : BeginsWith (word_of plan.routes) prefix

-- the word costs more than the floor, or is not before the plan, if there is one
abbrev pub IsNotBefore : Problem → ℕ → Option PricedPlan → List ℕ → Type 0
IsNotBefore p floor last_offer word = (floor < word_cost p word) ⊎ MatchOption last_offer ⊥ (λ plan. ComesBefore (word_cost p word) word plan.cost (word_of plan.routes) → ⊥)

-- each feasible word under the prefix satisfies `IsNotBefore`
abbrev pub NoneBeforeUnder : Problem → List ℕ → ℕ → Option PricedPlan → Type 0
NoneBeforeUnder p prefix floor last_offer = (word : List ℕ) → IsLawfulWord p word → BeginsWith word prefix → IsNotBefore p floor last_offer word

-- each word under the prefix costs more than the floor, or is not before the last offer there, if there is one
pub record IsFinished (p : Problem) (prefix : List ℕ) (budget floor spent : ℕ) (last_offer : Option PricedPlan) : Type 0 where
  pub some : 1 ≤ spent
  pub within : spent ≤ budget
  pub tree : TreeHasAtLeast p prefix spent
  pub found : ForSome last_offer (IsFoundUnder p prefix)
  -- it was offered to the board, so the floor is at most its cost
  pub offered : ForSome last_offer (λ plan. floor ≤ plan.cost)
  pub none_before : NoneBeforeUnder p prefix floor last_offer
  -- so none costs less than the floor
  pub none_cheaper : NoneCheaperUnder p prefix floor

-- the budget is spent, or the board may stop a search; the prefix's tree has more than was looked at
pub record IsUnfinished (p : Problem) (among prefix : List ℕ) (budget : ℕ) (may_stop : Bool) (spent low : ℕ) : Type 0 where
  pub within : spent ≤ budget
  pub all_spent : (spent ≡ budget) ⊎ IsTrue may_stop
  pub tree : TreeHasAtLeast p prefix (spent + 1)
  pub is_low : IsLow p among prefix (Some low)
  pub none_cheaper : NoneCheaperUnder p prefix low

abbrev pub EndsSearch : Problem → List ℕ → List ℕ → ℕ → Bool → ℕ → Ended → Type 0
EndsSearch p among prefix budget may_stop floor (Finished spent last_offer) = IsFinished p prefix budget floor spent last_offer
EndsSearch p among prefix budget may_stop floor (Unfinished spent low) = IsUnfinished p among prefix budget may_stop spent low
