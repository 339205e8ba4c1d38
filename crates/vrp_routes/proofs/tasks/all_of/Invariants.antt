use Rattle.std.proofs.Common.{◌≡◌, ◌++◌, Ok, map}
use Rattle.vrp_routes.proofs.tasks.all_of.Given as goal

-- those so far are values
abbrev pub invariant-loop-result : goal.invariant-loop-result
invariant-loop-result g l = l.fn.results.items ≡ map Ok l.all.items ++ l.result-iterator.rest.items
