-- The plan that the board of one thread keeps.
use Rattle.std.specs.Prelude.{◌<◌, None, Option, Some}
use Rattle.std.specs.Option.{ForSome}
use Rattle.vrp_model.specs.Order.{IsBefore}
use Rattle.vrp_model.specs.Problem.{Problem}
use Rattle.vrp_model.specs.Route.{IsPlanOf, PricedPlan}
use Rattle.vrp_model.specs.declared.limits.TheConstants.{NO_COST}

-- A plan is before the one that is kept. If none is kept, each plan of a problem is: all cost less than `NO_COST`.
abbrev pub IsBeforeKept : PricedPlan → Option PricedPlan → Type 0
IsBeforeKept plan None = plan.cost < NO_COST
IsBeforeKept plan (Some kept) = IsBefore plan kept

-- the kept plan, if there is one, is a plan of the problem with its true cost
abbrev pub KeepsPlanOf : Problem → Option PricedPlan → Type 0
KeepsPlanOf p kept = ForSome kept (IsPlanOf p)
