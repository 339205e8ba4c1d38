-- The answer to a problem.
use Rattle.std.specs.Prelude.{◌⊎◌, ℕ, ◌+◌, ◌-◌, ◌≤◌, Bool, Option, List, length}
use Rattle.std.specs.List.{All}
use Rattle.vrp_model.specs.Cheapest.{HasNoPlan}
use Rattle.vrp_model.specs.Order.{IsCanonical}
use Rattle.vrp_model.specs.Problem.{Problem}
use Rattle.vrp_model.specs.Route.{PricedPlan}
use Rattle.vrp_model.specs.declared.limits.TheConstants.{MAX_NODES}
use Rattle.vrp_search_tree.specs.Cutting.{HasNoChild, IsCutting}
use Rattle.vrp_answer.specs.Answer.{IsLeftOpen}
use Rattle.vrp_answer.specs.declared.answers.Answer.{Answer}
use Rattle.vrp_answer.specs.declared.answers.Answer.TheVariants.{Proven, Open, NoPlan}

-- The words are cut into pieces, at least the requested number or until none has a child, and fewer than `MAX_NODES` more;
-- some of these pieces are left.
pub record IsCutOpen (p : Problem) (pieces budget : ℕ) (may_stop : Bool) (plan : Option PricedPlan) (low first : ℕ) : Type 0 where
  pub cutting : List (List ℕ)
  pub is_cutting : IsCutting p cutting
  pub enough : (pieces ≤ length cutting) ⊎ All (HasNoChild p) cutting
  pub few : length cutting ≤ pieces + (MAX_NODES - 1)
  pub left_open : IsLeftOpen p cutting budget may_stop plan low first

-- Proven: a cheapest plan, the first of these by word. NoPlan: no plan is feasible. Only Open involves pieces, a budget, and
-- whether the search may be stopped before the budget is spent.
abbrev pub IsAnswerTo : Problem → ℕ → ℕ → Bool → Answer → Type 0
IsAnswerTo p pieces budget may_stop (Proven plan) = IsCanonical p plan
IsAnswerTo p pieces budget may_stop (Open plan low first) = IsCutOpen p pieces budget may_stop plan low first
IsAnswerTo p pieces budget may_stop NoPlan = HasNoPlan p
