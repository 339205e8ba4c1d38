use Rattle.std.proofs.Common.{◌≡◌, ◌<◌, ℕ, true, false, get_or}
use Rattle.vrp_plan_text.proofs.reading.lawful.first_unserved.Given as goal

abbrev pub invariant-loop-customer : goal.invariant-loop-customer
invariant-loop-customer l = (k : ℕ) → 0 < k → k < l.customer → get_or l.served k false ≡ true
