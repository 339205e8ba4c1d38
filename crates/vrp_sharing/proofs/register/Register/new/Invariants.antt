use Rattle.std.proofs.Common.{◌≡◌, ◌+◌}
use Rattle.vrp_model.specs.Cheapest.{cost_of}
use Rattle.vrp_sharing.specs.Caller.{newcomers}
use Rattle.vrp_sharing.proofs.register.Register.new.Given as goal

abbrev pub invariant-loop-number : goal.invariant-loop-number
invariant-loop-number g l = record { parts : l.all.parts + l.number ≡ l.callers; amount : l.all.amount ≡ 0; maker : l.maker ≡ record { table = l.least-inside.table.shared.table_id; opening = cost_of l.fn.plan; next = l.number }; made : l.made.items ≡ newcomers l.least-inside.table.shared.table_id (cost_of l.fn.plan) l.number }
