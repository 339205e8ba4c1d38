-- An answer that is ready to be written.
use Rattle.std.specs.Option.{ForSome, option_and_then, option_map}
use Rattle.std.specs.Prelude.{◌≡◌, ℕ, Bool, None, Option, List, string_bytes}
use Rattle.vrp_command.specs.Found.{IsFoundBy}
use Rattle.vrp_command.specs.Inner.Named.{ReadsNamed}
use Rattle.vrp_command.specs.Inner.Points.{HasPoints}
use Rattle.vrp_command.specs.Inner.Starts.{BeginsStated}
use Rattle.vrp_command.specs.Inner.Told.{told_outcome}
use Rattle.vrp_command.specs.Text.{context_of}
use Rattle.vrp_command.specs.declared.problem.Problem.{Problem}
use Rattle.vrp_command.specs.declared.solving.ReadyAnswer.{ReadyAnswer}
use Rattle.vrp_command.specs.declared.start.StartFile.{StartFile}
use Rattle.vrp_command_request.specs.declared.options.Request.{Request}
use Rattle.vrp_model.specs.Route.{IsPlanOf, PricedPlan}
use Rattle.vrp_plan_text.specs.declared.reading.solution.Solution.{Solution}
use Rattle.vrp_plan_text.specs.Json.{ContextOf}

-- the plan of a solution, if there is one
abbrev pub plan_in : Option Solution → Option PricedPlan
plan_in start = option_map (λ solution. solution.plan) start

-- the context in which an answer is written: the name in its file, and the cost that the start plan's file states
abbrev pub context_for : Request → ReadyAnswer → ContextOf
context_for request ready = context_of request (option_map string_bytes ready.problem.beside.name) (option_and_then (λ solution. solution.stated_cost) ready.start)

-- the answer to a problem and to the start plan in this file, if there is one
pub record IsReadyOn {S : Type 0} (request : Request) (may_stop : Bool) (problem : Problem) (unread : S → Option (List ℕ)) (file : Option (StartFile S)) (ready : ReadyAnswer) : Type 0 where
  pub of_problem : ready.problem ≡ problem
  pub begins : BeginsStated problem.instance unread file ready.start
  pub found : IsFoundBy request may_stop problem.instance (plan_in ready.start) (told_outcome request.seconds ready.outcome)
  pub plan : ForSome (told_outcome request.seconds ready.outcome).plan (IsPlanOf problem.instance)
  pub points : HasPoints request.format problem

-- the answer to the bytes read and to that start plan
pub record IsReady {S : Type 0} (request : Request) (may_stop : Bool) (unread : S → Option (List ℕ)) (file : Option (StartFile S)) (unread_old unread_new : Option (List ℕ)) (ready : ReadyAnswer) : Type 0 where
  pub read : ReadsNamed request.options request.format unread_old unread_new ready.problem.instance (option_map string_bytes ready.problem.beside.name)
  pub on : IsReadyOn request may_stop ready.problem unread file ready

-- the answer to the bytes read, without a start plan
pub record IsReadyAlone (request : Request) (may_stop : Bool) (unread_old unread_new : Option (List ℕ)) (ready : ReadyAnswer) : Type 0 where
  pub read : ReadsNamed request.options request.format unread_old unread_new ready.problem.instance (option_map string_bytes ready.problem.beside.name)
  pub found : IsFoundBy request may_stop ready.problem.instance None (told_outcome request.seconds ready.outcome)
  pub plan : ForSome (told_outcome request.seconds ready.outcome).plan (IsPlanOf ready.problem.instance)
