-- The answer to an instance whose words are cut into pieces.
use Rattle.std.specs.Prelude.{◌≡◌, ◌⊎◌, ℕ, ◌+◌, ◌≤◌, ◌<◌, Bool, false, true, IsTrue, Option, None, Some, List, [], length, slice_index_or}
use Rattle.std.specs.Option.{ForSome}
use Rattle.vrp_model.specs.Cheapest.{HasNoPlan, NoneCheaper, cost_of}
use Rattle.vrp_model.specs.Order.{IsCanonical}
use Rattle.vrp_model.specs.Problem.{HasTrucks, Problem, customers}
use Rattle.vrp_model.specs.Route.{IsPlanOf, PricedPlan}
use Rattle.vrp_model.specs.Word.{NoneCheaperUnder, TreeHasAtLeast, unserved_in}
use Rattle.vrp_search_tree.specs.Low.{IsLow}
use Rattle.vrp_answer.specs.declared.answers.Answer.{Answer}
use Rattle.vrp_answer.specs.declared.answers.Answer.TheVariants.{Proven, Open, NoPlan}

-- the prefix of the piece of this number
abbrev pub piece_of : List (List ℕ) → ℕ → List ℕ
piece_of cutting number = slice_index_or cutting number []

-- the low of a prefix, with tables over its unserved customers: its cost plus the bound on what is still to pay
abbrev pub IsOwnLow : Problem → List ℕ → Option ℕ → Type 0
IsOwnLow p prefix low = IsLow p (unserved_in p prefix) prefix low

-- The prefix has a low, and its tree has more partial plans than were looked at; that count is the budget, or less if the
-- search may be stopped.
pub record IsLeft (p : Problem) (budget : ℕ) (may_stop : Bool) (prefix : List ℕ) : Type 0 where
  pub looked : ℕ
  pub within : looked ≤ budget
  pub all_spent : (looked ≡ budget) ⊎ IsTrue may_stop
  pub large : TreeHasAtLeast p prefix (looked + 1)
  pub some : IsOwnLow p prefix None → ⊥

-- the least of a plan's cost and the lows of the pieces that are left
pub record IsLeastLow (p : Problem) (cutting : List (List ℕ)) (is_left : ℕ → Bool) (cost low : ℕ) : Type 0 where
  pub met : (low ≡ cost) ⊎ ((number : ℕ) × (number < length cutting) × (is_left number ≡ true) × IsOwnLow p (piece_of cutting number) (Some low))
  pub than_cost : low ≤ cost
  pub than_lows : (number other : ℕ) → number < length cutting → is_left number ≡ true → IsOwnLow p (piece_of cutting number) (Some other) → low ≤ other

-- A feasible plan, or none yet, if there are more customers than trucks. Some pieces are left; `first` is the lowest of their
-- numbers, and `low` is the least of the plan's cost and their lows. No feasible plan costs less than `low`, and no word
-- under any other piece costs less than the plan.
pub record IsLeftOpen (p : Problem) (cutting : List (List ℕ)) (budget : ℕ) (may_stop : Bool) (plan : Option PricedPlan) (low first : ℕ) : Type 0 where
  pub plan_of : ForSome plan (IsPlanOf p)
  pub missing : plan ≡ None → HasTrucks p (length (customers p)) → ⊥
  pub none_cheaper : NoneCheaper p low
  -- by number
  pub is_left : ℕ → Bool
  pub first_is : (first < length cutting) × (is_left first ≡ true)
  pub lowest : (number : ℕ) → number < first → is_left number ≡ false
  pub left : (number : ℕ) → number < length cutting → is_left number ≡ true → IsLeft p budget may_stop (piece_of cutting number)
  pub others : (number : ℕ) → number < length cutting → is_left number ≡ false → NoneCheaperUnder p (piece_of cutting number) (cost_of plan)
  pub least : IsLeastLow p cutting is_left (cost_of plan) low

-- the plan of an answer, if there is one
abbrev pub known_plan : Answer → Option PricedPlan
known_plan (Proven plan) = Some plan
known_plan (Open plan low first) = plan
known_plan NoPlan = None

-- Proven: a cheapest plan, the first of these by word. NoPlan: no plan is feasible. Only Open involves pieces.
abbrev pub IsAnswer : Problem → List (List ℕ) → ℕ → Bool → Answer → Type 0
IsAnswer p cutting budget may_stop (Proven plan) = IsCanonical p plan
IsAnswer p cutting budget may_stop (Open plan low first) = IsLeftOpen p cutting budget may_stop plan low first
IsAnswer p cutting budget may_stop NoPlan = HasNoPlan p

-- an answer that does not involve pieces
abbrev pub AnswersAll : Problem → Answer → Type 0
AnswersAll p answer = (cutting : List (List ℕ)) (budget : ℕ) (may_stop : Bool) → IsAnswer p cutting budget may_stop answer
