use Rattle.std.proofs.Common.{refl, inl, inr}
use Rattle.std.proofs.lemmas.Bool.{cases_lt}
use Rattle.vrp_model.specs.Route.{plan_cost}
use Rattle.vrp_model.proofs.law.canonical_is_cheapest.Goals as goal

pub returns : goal.returns
returns c = λ p plan first routes lawful. elim (cases_lt (plan_cost p routes) plan.cost) [
  | inl less ↦ absurd (first.none_before (record { routes = routes; cost = plan_cost p routes }) (record { lawful = lawful; priced = refl }) (inl less))
  | inr within ↦ within
]
