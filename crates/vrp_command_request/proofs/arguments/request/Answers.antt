use Rattle.std.proofs.Common.{codes, ℕ, subst}
use Rattle.vrp_command_request.specs.Arguments.{AreAskedBy}
use Rattle.vrp_command_request.specs.Given.{GivesEither, GivesValue}
use Rattle.vrp_command_request.proofs.Values.{given_form, given_number, some_given}
use Rattle.vrp_command_request.proofs.arguments.request.Goals as goal

pub returns-clause-asked : goal.returns-clause-asked
returns-clause-asked c = let arguments = c.args.arguments.now in record {
  options = subst (λ (budget : ℕ). AreAskedBy arguments budget c.in_ok-options.field-0) c.default_budget.ensures.value c.in_ok-options.ensures.asked;
  seconds = given_number (GivesEither arguments (codes "--seconds") (codes "--time-limit")) c.value_of_either.result c.in_ok-seconds.seconds c.value_of_either.ensures c.in_ok-seconds.ensures.number;
  states_budget = some_given (GivesValue arguments (codes "--budget")) c.value_of.result c.is_some.result c.value_of.ensures c.is_some.ensures;
  progress = c.has_argument.ensures;
  start = c.value_of-2.ensures;
  check = c.has_argument-2.ensures;
  strict = c.has_argument-3.ensures;
  explain = c.has_argument-4.ensures;
  format = given_form (GivesValue arguments (codes "--format")) c.value_of-3.result c.in_ok-form.field-0 c.value_of-3.ensures c.in_ok-form.ensures;
}
