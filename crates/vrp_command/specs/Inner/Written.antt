-- The text written once a problem is read.
use Rattle.std.specs.Option.{option_map}
use Rattle.std.specs.Prelude.{◌≡◌, ◌↔◌, ◌&&◌, if◌then◌else◌, ℕ, Bool, false, true, IsSomeAnd, IsTrue, Option, None, Some, List, Ok}
use Rattle.vrp_answer.specs.declared.status.Status.{Status}
use Rattle.vrp_answer.specs.declared.status.Status.TheVariants as status
use Rattle.vrp_command.specs.Found.{WritesFound, WritesFoundPart}
use Rattle.vrp_command.specs.Program.{BeginsWith, OnRefusedStart, PrintsRequest, start_cost}
use Rattle.vrp_command.specs.Strict.{cost_code}
use Rattle.vrp_command.specs.Text.{context_of}
use Rattle.vrp_command.specs.declared.answering.WrittenAnswer.{WrittenAnswer}
use Rattle.vrp_command.specs.declared.fault.RequestError.{RequestError}
use Rattle.vrp_command.specs.declared.fault.RequestError.TheVariants as reason
use Rattle.vrp_command.specs.declared.start.StartError.{StartError}
use Rattle.vrp_command.specs.declared.start.StartFile.{StartFile}
use Rattle.vrp_model.specs.Problem.{Problem}
use Rattle.vrp_model.specs.Route.{PricedPlan}
use Rattle.vrp_command_request.specs.declared.options.Request.{Request}
use Rattle.vrp_command_streams.specs.Fault.{exit_code}
use Rattle.vrp_command_streams.specs.declared.fault.RunError.TheVariants as fault
use Rattle.vrp_plan_text.specs.Solution.{StatesOtherCost}
use Rattle.vrp_plan_text.specs.declared.reading.solution.Solution.{Solution}

-- the request's finding, for the problem of this name and the start plan from its file, was written, and nothing else
pub record WritesOn {S : Type 0} (request : Request) (name : Option (List ℕ)) (may_stop : Bool) (p : Problem) (unread : S → Option (List ℕ)) (file : Option (StartFile S)) (written_old written_new : Option (List ℕ)) (ended : Status) : Type 0 where
  pub start : Option PricedPlan
  pub begins : BeginsWith p unread file start
  pub written : WritesFound request (context_of request name (start_cost begins.text)) may_stop p start written_old written_new ended

-- a beginning of that text was written
pub record WritesPartOn {S : Type 0} (request : Request) (name : Option (List ℕ)) (may_stop : Bool) (p : Problem) (unread : S → Option (List ℕ)) (file : Option (StartFile S)) (written_old written_new : Option (List ℕ)) : Type 0 where
  pub start : Option PricedPlan
  pub begins : BeginsWith p unread file start
  pub written : WritesFoundPart request (context_of request name (start_cost begins.text)) may_stop p start written_old written_new

-- states a fact for each fault that may come once the problem is read, and before anything is written; none is a fault of the problem
abbrev pub OnFault : (StartError → Type 0) → Type 0 → RequestError → Type 0
OnFault Start Picture (reason.Run error) = error ≡ fault.OutOfMemory
OnFault Start Picture (reason.Start error) = OnRefusedStart error Start
OnFault Start Picture reason.NoPoints = Picture

-- it is known whether the text of a start plan's file states a wrong cost
abbrev pub IsStated : Option (List ℕ) → Solution → Type 0
IsStated start_text solution = IsSomeAnd start_text (λ text. IsTrue solution.states_other_cost ↔ StatesOtherCost text solution.plan.cost)

-- The answer to a request was written, and nothing else. If the plan was only checked, it is the start plan. Without a start plan there
-- is no text of its file; with one it is known whether that text states a wrong cost.
pub record IsWritten {S : Type 0} (request : Request) (may_stop : Bool) (unread_start : S → Option (List ℕ)) (start : Option (StartFile S))
    (unread_old unread_new written_old written_new : Option (List ℕ)) (written : WrittenAnswer) : Type 0 where
  pub prints : PrintsRequest request may_stop unread_start start unread_old unread_new written_old written_new written.status
  pub plan : prints.finding.status ≡ status.Lawful → option_map (λ solution. solution.plan) written.ready.start ≡ prints.finding.plan
  pub none : written.ready.start ≡ None → prints.start_text ≡ None
  pub other : (solution : Solution) → written.ready.start ≡ Some solution → IsStated prints.start_text solution

abbrev pub is_lawful : Status → Bool
is_lawful status.Proven = false
is_lawful status.Open = false
is_lawful status.NoPlan = false
is_lawful status.Lawful = true

-- the exit status of a plan that was checked
abbrev pub status_checked : Option Solution → ℕ
status_checked None = 0
status_checked (Some solution) = cost_code solution.states_other_cost

-- the exit status of an answer that was written: with `--strict` a wrong stated cost of a checked plan changes it
abbrev pub status_after : Request → WrittenAnswer → ℕ
status_after request written = if request.strict && is_lawful written.status then status_checked written.ready.start else exit_code (Ok written.status)
