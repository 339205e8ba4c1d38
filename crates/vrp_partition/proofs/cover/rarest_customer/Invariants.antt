use Rattle.std.proofs.Common.{◌≡◌, ◌<◌, ◌≤◌, ℕ}
use Rattle.std.specs.Int.{bit_at}
use Rattle.vrp_partition.proofs.cover.rarest_customer.Given as goal

abbrev pub invariant-loop-customer : goal.invariant-loop-customer
invariant-loop-customer l = record { one : bit_at l.fn.unserved l.best ≡ 1; small : l.best < 256; part : (i : ℕ) → bit_at l.others i ≤ bit_at l.fn.unserved i }

abbrev pub decreases-loop-customer : goal.decreases-loop-customer
decreases-loop-customer l = l.others
