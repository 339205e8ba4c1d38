-- The finding of a request for a problem, and the text written for it.
use Rattle.std.specs.Io.KnownBytes.{Appends}
use Rattle.std.specs.Option.{ForSome}
use Rattle.std.specs.Prelude.{◌≡◌, ◌⊎◌, ℕ, ◌≤◌, Bool, IsTrue, Option, Some, None, List}
use Rattle.vrp_answer.specs.Answer.{known_plan}
use Rattle.vrp_answer.specs.Finding.{FindingOf, bounded_finding, by_best_bound, lawful_finding}
use Rattle.vrp_answer.specs.declared.answers.Answer.{Answer}
use Rattle.vrp_answer.specs.declared.status.Status.{Status}
use Rattle.vrp_command.specs.Answer.{IsAnswerTo}
use Rattle.vrp_command.specs.Text.{IsTextIn}
use Rattle.vrp_plan_text.specs.Json.{ContextOf}
use Rattle.vrp_model.specs.Cheapest.{NoneCheaper, cost_of}
use Rattle.vrp_model.specs.Problem.{Problem}
use Rattle.vrp_model.specs.Route.{PricedPlan}
use Rattle.vrp_command_request.specs.declared.options.Request.{Request}
use Rattle.vrp_command_streams.specs.Output.{AppendsPart}

-- the start plan is only to be checked, and it is feasible
pub record IsChecked (request : Request) (start : Option PricedPlan) (finding : FindingOf) : Type 0 where
  pub asked : IsTrue request.check
  pub plan : PricedPlan
  pub given : start ≡ Some plan
  pub told : finding ≡ lawful_finding plan

-- the finding of an answer and of a bound below which no feasible plan costs; if a time was set, with the best of both bounds
-- alone
abbrev pub told_of : Option ℕ → Answer → ℕ → FindingOf
told_of None answer bound = bounded_finding answer bound
told_of (Some seconds) answer bound = by_best_bound (bounded_finding answer bound)

-- The answer comes from a search with these options, its plan costs no more than the start plan, and no feasible plan costs
-- less than the best bound in the finding.
pub record IsSearchedFor (request : Request) (may_stop : Bool) (problem : Problem) (start : Option PricedPlan) (finding : FindingOf) : Type 0 where
  pub unchecked : IsTrue request.check → start ≡ None
  pub answer : Answer
  pub answer_is : IsAnswerTo problem request.options.pieces request.options.budget may_stop answer
  pub no_costlier : cost_of (known_plan answer) ≤ cost_of start
  pub bound : ℕ
  pub none_below : NoneCheaper problem bound
  pub told : finding ≡ told_of request.seconds answer bound
  pub best : ForSome finding.best_lower_bound (NoneCheaper problem)

-- the finding of a request for a problem, with a start plan or without
abbrev pub IsFoundBy : Request → Bool → Problem → Option PricedPlan → FindingOf → Type 0
IsFoundBy request may_stop problem start finding = IsChecked request start finding ⊎ IsSearchedFor request may_stop problem start finding

-- the text of such a finding, in the requested form and with this context, was written, and nothing else
pub record WritesFound (request : Request) (context : ContextOf) (may_stop : Bool) (problem : Problem) (start : Option PricedPlan) (written_old written_new : Option (List ℕ)) (ended : Status) : Type 0 where
  pub finding : FindingOf
  pub found : IsFoundBy request may_stop problem start finding
  pub status : ended ≡ finding.status
  pub text : List ℕ
  pub told : IsTextIn request.format context problem finding text
  pub output : Appends written_old written_new text

-- a beginning of such a text was written
pub record WritesFoundPart (request : Request) (context : ContextOf) (may_stop : Bool) (problem : Problem) (start : Option PricedPlan) (written_old written_new : Option (List ℕ)) : Type 0 where
  pub finding : FindingOf
  pub found : IsFoundBy request may_stop problem start finding
  pub text : List ℕ
  pub told : IsTextIn request.format context problem finding text
  pub output : AppendsPart written_old written_new text
