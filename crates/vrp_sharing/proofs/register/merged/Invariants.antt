use Rattle.std.proofs.Common.{◌≡◌, ◌+◌, ◌++◌, length, map, vec_len}
use Rattle.std.specs.List.{All, sum_by}
use Rattle.vrp_sharing.proofs.register.merged.Given as goal

abbrev pub invariant-loop-caller : goal.invariant-loop-caller
invariant-loop-caller g l = record {
  parts : l.shares.parts + vec_len l.callers ≡ vec_len l.fn.callers;
  amount : sum_by (λ c. length c.known.mine) l.callers.items + l.shares.amount ≡ sum_by (λ c. length c.known.mine) l.fn.callers.items;
  table : l.seats.table ≡ l.least.table;
  seats : map (λ c. c.known) l.callers.items ++ l.seats.callers ≡ map (λ c. c.known) l.fn.callers.items;
  left : All (λ c. c.table ≡ l.least.table) l.callers.items;
}

abbrev pub decreases-loop-caller : goal.decreases-loop-caller
decreases-loop-caller g l = goal.left-loop-caller g l
