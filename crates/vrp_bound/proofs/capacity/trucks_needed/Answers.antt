use Rattle.std.proofs.Common.{arith}
use Rattle.vrp_bound.proofs.Trucks.{rounded_up}
use Rattle.vrp_bound.proofs.capacity.trucks_needed.Goals as goal

pub returns : goal.returns
returns c = rounded_up c.args.capacity c.args.amount (omega (arith, c.if-amount-eq0.false)) (c.requires (omega (arith, c.if-amount-eq0.false)))
