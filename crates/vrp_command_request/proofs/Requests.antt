-- What the request of the arguments says of them.
use Rattle.std.proofs.Common.{ℕ, List, Bor, IsTrue, codes, inl, inr}
use Rattle.vrp_command_request.specs.Arguments.{AreAskedUnderLimit, HasArgumentFrom, IsAskedBy}
use Rattle.vrp_command_request.specs.Options.{IsOtherFormat}
use Rattle.vrp_command_request.specs.declared.options.Request.{Request}
use Rattle.vrp_command_request.proofs.Values.{given_from}

module _ (arguments : List (Bor (List ℕ))) (request : Request) (asked : IsAskedBy arguments request) where
  pub budget_from : IsTrue request.states_budget → HasArgumentFrom arguments (codes "--budget")
  budget_from stated = let given = asked.states_budget.0 stated in given_from arguments (codes "--budget") given.0 given.1

  pub format_from : IsOtherFormat request.format → HasArgumentFrom arguments (codes "--format")
  format_from other = elim asked.format [
    | inl given ↦ given_from arguments (codes "--format") _ given
    | inr none ↦ absurd (other none.1)
  ]

  pub options_asked : AreAskedUnderLimit arguments request.options
  options_asked = (request.seconds, asked.seconds, asked.options)
