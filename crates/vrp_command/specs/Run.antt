-- The bytes that a run reads and writes.
use Rattle.std.specs.Prelude.{◌≡◌, ◌≢◌, ℕ, Bool, Option, None, Some, List, ⊤}
use Rattle.std.specs.Io.KnownBytes.{Appends}
use Rattle.vrp_model.specs.Problem.{Problem}
use Rattle.vrp_text.specs.Meaning.{MeansProblem, MeansRefusal}
use Rattle.vrp_text.specs.declared.error.TextError.{TextError}
use Rattle.vrp_text.specs.declared.error.TextError.TheVariants as text
use Rattle.vrp_command.specs.Answer.{IsAnswerTo}
use Rattle.vrp_command_streams.specs.Input.{IsInput}
use Rattle.vrp_command_streams.specs.Output.{AppendsPart}
use Rattle.vrp_command_streams.specs.Report.{report_of}
use Rattle.vrp_command_streams.specs.declared.fault.RunError.{RunError}
use Rattle.vrp_command_streams.specs.declared.fault.RunError.TheVariants as fault
use Rattle.vrp_command_request.specs.declared.options.Options.{Options}
use Rattle.vrp_answer.specs.Finding.{finding_of}
use Rattle.vrp_answer.specs.declared.answers.Answer.{Answer}
use Rattle.vrp_answer.specs.declared.status.Status.{Status}

-- the status of a run that prints this answer
abbrev pub status_of : Answer → Status
status_of answer = (finding_of answer).status

-- the problem with the requested number of trucks, if there is one
abbrev pub limited : Option ℕ → Problem → Problem
limited None problem = problem
limited (Some trucks) problem = record problem { trucks = Some trucks }

-- the report is that of an answer to the problem, by a search that may be stopped or not
pub record ReportsAnswer (options : Options) (may_stop : Bool) (problem : Problem) (report : List ℕ) (ended : Status) : Type 0 where
  pub found : Answer
  pub answer_is : IsAnswerTo problem options.pieces options.budget may_stop found
  pub text : report ≡ report_of problem (finding_of found)
  pub status : ended ≡ status_of found

-- the bytes mean a problem, and this is the report of such an answer to it, with the requested trucks
pub record AnswersBytes (options : Options) (may_stop : Bool) (bytes report : List ℕ) (ended : Status) : Type 0 where
  pub problem : Problem
  pub meant : MeansProblem bytes options.depot problem
  pub reported : ReportsAnswer options may_stop (limited options.trucks problem) report ended

-- the bytes read mean a problem, and this is that problem with the requested trucks
pub record ReadsProblem (options : Options) (unread_old unread_new : Option (List ℕ)) (problem : Problem) : Type 0 where
  pub bytes : List ℕ
  pub input : IsInput unread_old unread_new bytes
  pub meant : Problem
  pub means : MeansProblem bytes options.depot meant
  pub with_trucks : problem ≡ limited options.trucks meant

-- The report of an answer to the bytes read was written, and nothing else. The known bytes of a reader and of a writer are
-- given before and after the call.
pub record PrintsAnswer (options : Options) (may_stop : Bool) (unread_old unread_new written_old written_new : Option (List ℕ)) (ended : Status) : Type 0 where
  pub bytes : List ℕ
  pub input : IsInput unread_old unread_new bytes
  pub report : List ℕ
  pub answers : AnswersBytes options may_stop bytes report ended
  pub output : Appends written_old written_new report

-- the bytes read are refused for this reason
pub record RefusesInput (chosen : Option ℕ) (unread_old unread_new : Option (List ℕ)) (refusal : TextError) : Type 0 where
  pub bytes : List ℕ
  pub input : IsInput unread_old unread_new bytes
  pub refused : MeansRefusal bytes chosen refusal

-- The bytes read mean a problem, and a beginning of the report of an answer to it was written.
pub record PrintsPart (options : Options) (may_stop : Bool) (unread_old unread_new written_old written_new : Option (List ℕ)) : Type 0 where
  pub bytes : List ℕ
  pub input : IsInput unread_old unread_new bytes
  pub report : List ℕ
  pub ended : Status
  pub answers : AnswersBytes options may_stop bytes report ended
  pub output : AppendsPart written_old written_new report

-- States a fact for a refused file. Lack of memory is not such a refusal.
abbrev pub OnRefusedFile : RunError → (TextError → Type 0) → Type 0
OnRefusedFile (fault.Text refusal) P = (refusal ≢ text.OutOfMemory) × P refusal
OnRefusedFile fault.OutOfMemory P = ⊤
OnRefusedFile fault.Read P = ⊤
OnRefusedFile fault.Write P = ⊤
