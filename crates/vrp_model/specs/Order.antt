-- The order of plans: by cost, and for equal costs by word.
use Rattle.std.specs.Prelude.{◌≡◌, ◌⊎◌, ℕ, ◌<◌, List, [], ◌∷◌, ⊤}
use Rattle.vrp_model.specs.Problem.{Problem}
use Rattle.vrp_model.specs.Route.{IsPlanOf, PricedPlan}
use Rattle.vrp_model.specs.Word.{word_of}

-- compared symbol by symbol: where the words first differ, the first has the lesser symbol, or ends while the other continues
abbrev pub IsEarlier : List ℕ → List ℕ → Type 0
IsEarlier [] [] = ⊥
IsEarlier [] (k ∷ other) = ⊤
IsEarlier (j ∷ word) [] = ⊥
IsEarlier (j ∷ word) (k ∷ other) = (j < k) ⊎ ((j ≡ k) × IsEarlier word other)

-- a word with this cost is before another with that cost
abbrev pub ComesBefore : ℕ → List ℕ → ℕ → List ℕ → Type 0
ComesBefore cost word other_cost other = (cost < other_cost) ⊎ ((cost ≡ other_cost) × IsEarlier word other)

-- a plan is before another: it costs less, or it costs as much and its word is earlier
abbrev pub IsBefore : PricedPlan → PricedPlan → Type 0
IsBefore plan other = ComesBefore plan.cost (word_of plan.routes) other.cost (word_of other.routes)

-- a feasible plan with its true cost, and no feasible plan is before it
pub record IsCanonical (p : Problem) (plan : PricedPlan) : Type 0 where
  pub plan_of : IsPlanOf p plan
  pub none_before : (other : PricedPlan) → IsPlanOf p other → IsBefore other plan → ⊥
