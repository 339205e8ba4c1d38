-- The finding that is printed for a request's result.
use Rattle.std.specs.Prelude.{ℕ, Option}
use Rattle.vrp_answer.specs.Finding.{FindingOf, lawful_finding}
use Rattle.vrp_command.specs.Found.{told_of}
use Rattle.vrp_command.specs.declared.outcome.RequestOutcome.{RequestOutcome}
use Rattle.vrp_command.specs.declared.outcome.RequestOutcome.TheVariants as outcome

-- the finding of a result; for a search with a time limit, with the best bound alone
abbrev pub told_outcome : Option ℕ → RequestOutcome → FindingOf
told_outcome seconds (outcome.Checked plan) = lawful_finding plan
told_outcome seconds (outcome.Searched solved) = told_of seconds solved.answer solved.lower_bound
