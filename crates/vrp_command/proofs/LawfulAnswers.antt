-- The plan of an answer is feasible, and no feasible plan costs less than the best bound that is told of it.
use Rattle.std.proofs.Common.{◌≡◌, ◌∙◌, inl, inr, ℕ, Bool, Option, None, Some, max, refl, ap, sym, subst}
use Rattle.std.specs.Option.{ForSome}
use Rattle.std.proofs.Math.Nat.{max-le}
use Rattle.std.proofs.lemmas.Bool.{cases_lt}
use Rattle.vrp_model.specs.Cheapest.{NoneCheaper}
use Rattle.vrp_model.specs.Order.{IsCanonical}
use Rattle.vrp_model.specs.Problem.{Problem}
use Rattle.vrp_model.specs.Route.{IsPlanOf, PricedPlan, plan_cost}
use Rattle.vrp_answer.specs.Finding.{FindingOf, bounded_finding}
use Rattle.vrp_command.specs.Answer.{IsAnswerTo}
use Rattle.vrp_command.specs.Found.{told_of}
use Rattle.vrp_answer.specs.Answer.{known_plan}
use Rattle.vrp_answer.specs.declared.answers.Answer.{Answer}
use Rattle.vrp_answer.specs.declared.answers.Answer.TheVariants.{NoPlan, Open, Proven}

pub answer_lawful : (p : Problem) (pieces budget : ℕ) (may_stop : Bool) (found : Answer) → IsAnswerTo p pieces budget may_stop found → ForSome (known_plan found) (IsPlanOf p)
answer_lawful p pieces budget may_stop (Proven plan) canonical = λ other same. (let one : plan ≡ other = cc in subst (IsPlanOf p) one canonical.plan_of)
answer_lawful p pieces budget may_stop (Open plan low lowest) left = left.left_open.plan_of
answer_lawful p pieces budget may_stop NoPlan nothing = λ other same. absurd (let never : None ≡ Some other = same in cc)

-- what is told of an answer, with a bound, is told of its plan
told_of_plan : (seconds : Option ℕ) (found : Answer) (bound : ℕ) → (told_of seconds found bound).plan ≡ known_plan found
told_of_plan None (Proven plan) bound = refl
told_of_plan None (Open plan low lowest) bound = refl
told_of_plan None NoPlan bound = refl
told_of_plan (Some seconds) (Proven plan) bound = refl
told_of_plan (Some seconds) (Open plan low lowest) bound = refl
told_of_plan (Some seconds) NoPlan bound = refl

-- and so the plan that is told is feasible
pub told_of_lawful : (p : Problem) (pieces budget : ℕ) (may_stop : Bool) (seconds : Option ℕ) (found : Answer) (bound : ℕ) (told : FindingOf)
    → told ≡ told_of seconds found bound → IsAnswerTo p pieces budget may_stop found → ForSome told.plan (IsPlanOf p)
told_of_lawful p pieces budget may_stop seconds found bound told is answer =
    subst (λ (plan : Option PricedPlan). ForSome plan (IsPlanOf p)) (sym (ap (λ (f : FindingOf). f.plan) is ∙ told_of_plan seconds found bound)) (answer_lawful p pieces budget may_stop found answer)

-- ---- the best bound

-- no feasible plan costs less than the canonical one
canonical_cheapest : (p : Problem) (plan : PricedPlan) → IsCanonical p plan → NoneCheaper p plan.cost
canonical_cheapest p plan canonical = λ routes lawful. elim (cases_lt (plan_cost p routes) plan.cost) [
  | inl less ↦ absurd (canonical.none_before (record { routes = routes; cost = plan_cost p routes }) (record { lawful = lawful; priced = refl }) (inl less))
  | inr within ↦ within
]

bounded_none_cheaper : (p : Problem) (pieces budget : ℕ) (may_stop : Bool) (found : Answer) (bound : ℕ) → IsAnswerTo p pieces budget may_stop found → NoneCheaper p bound
    → ForSome (bounded_finding found bound).best_lower_bound (NoneCheaper p)
bounded_none_cheaper p pieces budget may_stop (Proven plan) bound canonical none_below = λ best same. (let one : plan.cost ≡ best = cc in subst (NoneCheaper p) one (canonical_cheapest p plan canonical))
bounded_none_cheaper p pieces budget may_stop (Open plan low lowest) bound left none_below =
    λ best same. (let one : max low bound ≡ best = cc in subst (NoneCheaper p) one (λ routes lawful. max-le (left.left_open.none_cheaper routes lawful) (none_below routes lawful)))
bounded_none_cheaper p pieces budget may_stop NoPlan bound nothing none_below = λ best same. absurd (let never : None ≡ Some best = same in cc)

-- where a time was set or not, the best bound is the same
best_told : (seconds : Option ℕ) (found : Answer) (bound : ℕ) → (told_of seconds found bound).best_lower_bound ≡ (bounded_finding found bound).best_lower_bound
best_told None found bound = refl
best_told (Some seconds) found bound = refl

pub best_none_cheaper : (p : Problem) (pieces budget : ℕ) (may_stop : Bool) (seconds : Option ℕ) (found : Answer) (bound : ℕ) (told : FindingOf)
    → told ≡ told_of seconds found bound → IsAnswerTo p pieces budget may_stop found → NoneCheaper p bound → ForSome told.best_lower_bound (NoneCheaper p)
best_none_cheaper p pieces budget may_stop seconds found bound told is answer none_below =
    subst (λ (best : Option ℕ). ForSome best (NoneCheaper p)) (sym (ap (λ (f : FindingOf). f.best_lower_bound) is ∙ best_told seconds found bound)) (bounded_none_cheaper p pieces budget may_stop found bound answer none_below)
