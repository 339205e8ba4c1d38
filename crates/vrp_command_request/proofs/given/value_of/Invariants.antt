use Rattle.std.proofs.Common.{ℕ, ◌<◌, List}
use Rattle.vrp_command_request.specs.Given.{GivesAt}
use Rattle.vrp_command_request.proofs.given.value_of.Given as goal

-- no argument so far gives a value
abbrev pub invariant-loop-at : goal.invariant-loop-at
invariant-loop-at l = (k : ℕ) (value : List ℕ) → k < l.at → GivesAt l.arguments l.name k value → ⊥
