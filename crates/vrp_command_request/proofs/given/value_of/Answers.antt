use Rattle.std.proofs.Common.{ℕ, below_more, arith}
use Rattle.vrp_command_request.specs.Given.{GivesAt}
use Rattle.vrp_command_request.proofs.Values.{none_case}
use Rattle.vrp_command_request.proofs.given.value_of.Goals as goal

pub loop-at-preserved : goal.loop-at-preserved
loop-at-preserved c = λ k value lt. below_more (λ (i : ℕ). GivesAt c.args.arguments.now c.args.name.now i value → ⊥) c.loop-at.at (λ i less. c.loop-at.invariant i value less) (none_case c.value_at.result _ _ c.value_at.ensures c.in_default.not-Some value) k lt

pub returns : goal.returns
returns c = λ value gives. c.loop-at.invariant gives.0 value (let lt = gives.1 in omega arith) gives.2
