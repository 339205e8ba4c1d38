-- The plan that a search found last.
use Rattle.std.specs.Prelude.{◌≡◌, ◌⊎◌, ℕ, ◌≤◌, ◌<◌, Option, Some, List}
use Rattle.vrp_model.specs.Cheapest.{cost_of}
use Rattle.vrp_model.specs.Problem.{Problem}
use Rattle.vrp_model.specs.Route.{IsPlanOf, PricedPlan}
use Rattle.vrp_model.specs.Word.{IsLawfulWord, word_cost, word_of}

-- the plan of this word, with its cost
pub record IsFoundAt (p : Problem) (word : List ℕ) (plan : PricedPlan) : Type 0 where
  pub plan_of : IsPlanOf p plan
  pub is_word : word_of plan.routes ≡ word
  pub priced : plan.cost ≡ word_cost p word

-- the plan of this word is taken: it costs less than the one before, and a floor is at most its cost
pub record IsTaken (p : Problem) (word : List ℕ) (floor : ℕ) (old found : Option PricedPlan) : Type 0 where
  pub lawful : IsLawfulWord p word
  pub plan : PricedPlan
  pub is : found ≡ Some plan
  pub found_at : IsFoundAt p word plan
  pub cheaper : plan.cost < cost_of old
  pub below : floor ≤ plan.cost

-- the plan of a complete word that costs less than the one found before replaces it; any other word changes nothing
abbrev pub IsLastOffer : Problem → List ℕ → ℕ → Option PricedPlan → Option PricedPlan → Type 0
IsLastOffer p word floor old new = IsTaken p word floor old new ⊎ ((IsLawfulWord p word → cost_of old ≤ word_cost p word) × (new ≡ old))
