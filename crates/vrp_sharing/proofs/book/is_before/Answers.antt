use Rattle.std.proofs.Common.{ap}
use Rattle.std.specs.Option.{option_map}
use Rattle.vrp_sharing.proofs.KeptPlans.{before_known}
use Rattle.vrp_sharing.proofs.book.is_before.Goals as goal

pub returns-in-Some : goal.returns-in-Some
returns-in-Some c = before_known (option_map (λ plan. plan.now) c.args.kept) c.args.offered.now c.in-Some.kept.now c.is_before.result (ap (option_map (λ plan. plan.now)) c.in-Some.is) c.is_before.ensures
