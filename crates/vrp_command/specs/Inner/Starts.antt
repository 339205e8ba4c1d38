-- Facts about the start plan's file, step by step.
use Rattle.std.specs.Option.{option_and_then, option_map}
use Rattle.std.specs.Prelude.{◌≡◌, ◌↔◌, ℕ, ◌<◌, IsSomeAnd, IsTrue, Option, Some, List, length, ⊤}
use Rattle.vrp_command.specs.Program.{BeginsWith, IsFile, start_cost}
use Rattle.vrp_plan_text.specs.Solution.{GivesPlan, StatesOtherCost, stated_cost}
use Rattle.vrp_plan_text.specs.declared.reading.solution.Solution.{Solution}
use Rattle.vrp_command.specs.declared.start.StartError.{StartError}
use Rattle.vrp_command.specs.declared.start.StartError.TheVariants as start_fault
use Rattle.vrp_command.specs.declared.start.StartFile.{StartFile}
use Rattle.vrp_text.specs.declared.lexer.limits.TheConstants.{MAX_BYTES}
use Rattle.vrp_model.specs.Problem.{Problem}
use Rattle.vrp_plan_text.specs.declared.reading.error.SolutionError.{SolutionError}
use Rattle.vrp_plan_text.specs.declared.reading.error.SolutionError.TheVariants as solution
use Rattle.vrp_command_streams.specs.Input.{IsInput}

-- the whole file gives the plan of this solution, and states its stated cost
pub record GivesFilePlan (p : Problem) (unread : Option (List ℕ)) (solution : Solution) : Type 0 where
  pub text : List ℕ
  pub file : IsFile unread text
  pub gives : GivesPlan p text solution.plan
  pub stated : solution.stated_cost ≡ stated_cost text
  pub other : IsTrue solution.states_other_cost ↔ StatesOtherCost text solution.plan.cost

-- the start plan, if one is given, is the one that its file's text gives, its stated cost is the one in that text, and it is known
-- whether that is a wrong one
pub record BeginsStated {S : Type 0} (p : Problem) (unread : S → Option (List ℕ)) (file : Option (StartFile S)) (start : Option Solution) : Type 0 where
  pub begins : BeginsWith p unread file (option_map (λ solution. solution.plan) start)
  pub stated : option_and_then (λ solution. solution.stated_cost) start ≡ start_cost begins.text
  pub other : (solution : Solution) → start ≡ Some solution → IsSomeAnd begins.text (λ text. IsTrue solution.states_other_cost ↔ StatesOtherCost text solution.plan.cost)

-- more bytes of a file were read than it may have
pub record IsTooLong (unread : Option (List ℕ)) : Type 0 where
  pub text : List ℕ
  pub after : Option (List ℕ)
  pub input : IsInput unread after text
  pub long : MAX_BYTES < length text

-- a file that was not read to its end is too long; other errors state nothing about it
abbrev pub IsTooLongOrUnread : Option (List ℕ) → StartError → Type 0
IsTooLongOrUnread unread (start_fault.Refused refusal) = ⊥
IsTooLongOrUnread unread start_fault.TooLong = IsTooLong unread
IsTooLongOrUnread unread start_fault.Read = ⊤
IsTooLongOrUnread unread start_fault.OutOfMemory = ⊤

-- the reason why there is no start plan, for a refused solution
abbrev pub refused_for : SolutionError → StartError
refused_for solution.OutOfMemory = start_fault.OutOfMemory
refused_for (solution.UnknownLine line) = start_fault.Refused (solution.UnknownLine line)
refused_for (solution.BadNumber line) = start_fault.Refused (solution.BadNumber line)
refused_for (solution.RepeatedCost line) = start_fault.Refused (solution.RepeatedCost line)
refused_for (solution.NotACustomer route customer) = start_fault.Refused (solution.NotACustomer route customer)
refused_for (solution.ServedTwice route customer) = start_fault.Refused (solution.ServedTwice route customer)
refused_for (solution.NotServed customer) = start_fault.Refused (solution.NotServed customer)
refused_for (solution.Overloaded route load capacity) = start_fault.Refused (solution.Overloaded route load capacity)
refused_for (solution.TooManyRoutes routes) = start_fault.Refused (solution.TooManyRoutes routes)
