use Rattle.std.proofs.Common.{subst, sym}
use Rattle.std.specs.Option.{ForSome, option_map}
use Rattle.vrp_model.specs.Route.{IsPlanOf}
use Rattle.vrp_answer.specs.Outcomes.{Search}
use Rattle.vrp_answer.proofs.shared.Shared.with_plan.Goals as goal

pub earlier_of-start_plan-requires-clause-one : goal.earlier_of-start_plan-requires-clause-one
earlier_of-start_plan-requires-clause-one g c = c.self.invariant.2

pub earlier_of-start_plan-requires-clause-other : goal.earlier_of-start_plan-requires-clause-other
earlier_of-start_plan-requires-clause-other g c = subst (λ (s : Search). ForSome (option_map (λ plan. plan.now) c.args.plan) (IsPlanOf s.problem)) (sym c.self.view_is) c.requires
