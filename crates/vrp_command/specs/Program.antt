-- The answer to a request.
use Rattle.std.specs.Io.KnownBytes.{Appends}
use Rattle.std.specs.Option.{option_and_then}
use Rattle.std.specs.Prelude.{◌≡◌, ◌≢◌, ℕ, ◌<◌, ◌≤◌, Bool, true, IsSome, IsSomeAnd, Option, Some, None, Result, Ok, Err, List, length, ⊤}
use Rattle.vrp_answer.specs.Finding.{FindingOf}
use Rattle.vrp_answer.specs.declared.status.Status.{Status}
use Rattle.vrp_command.specs.Found.{IsFoundBy}
use Rattle.vrp_command.specs.Run.{OnRefusedFile, ReadsProblem, limited}
use Rattle.vrp_command.specs.Start.{start_code}
use Rattle.vrp_command.specs.Text.{IsTextIn, context_of}
use Rattle.vrp_command.specs.declared.fault.RequestError.{RequestError}
use Rattle.vrp_command.specs.declared.fault.RequestError.TheVariants as reason
use Rattle.vrp_command.specs.declared.start.StartError.{StartError}
use Rattle.vrp_command.specs.declared.start.StartError.TheVariants as start_fault
use Rattle.vrp_command.specs.declared.start.StartFile.{StartFile}
use Rattle.vrp_command.specs.declared.start.StartFile.TheVariants.{Opened, Unopened}
use Rattle.vrp_plan_text.specs.Name.{name_of}
use Rattle.vrp_text.specs.declared.lexer.limits.TheConstants.{MAX_BYTES}
use Rattle.vrp_model.specs.Problem.{Problem}
use Rattle.vrp_model.specs.Route.{PricedPlan}
use Rattle.vrp_command_request.specs.declared.options.Request.{Request}
use Rattle.vrp_plan_text.specs.Solution.{GivesPlan, IsRefusedFor, stated_cost}
use Rattle.vrp_plan_text.specs.declared.reading.error.SolutionError.TheVariants as solution
use Rattle.vrp_command_streams.specs.Fault.{exit_code}
use Rattle.vrp_command_streams.specs.Input.{IsInput}
use Rattle.vrp_command_streams.specs.Output.{AppendsPart}
use Rattle.vrp_text.specs.Meaning.{MeansProblem}
use Rattle.vrp_text.specs.declared.error.TextError.{TextError}

-- whether a search may be stopped: it has a limit of seconds, or its gate may stop it
abbrev pub may_stop_by : Option ℕ → Bool → Bool
may_stop_by None gate = gate
may_stop_by (Some seconds) gate = true

-- the start plan is the one that its file's text gives, if there is a file
abbrev pub GivesStart : Problem → Option (List ℕ) → Option PricedPlan → Type 0
GivesStart p None start = start ≡ None
GivesStart p (Some text) start = IsSomeAnd start (GivesPlan p text)

-- the stated cost of the start plan, if there is one
abbrev pub start_cost : Option (List ℕ) → Option ℕ
start_cost text = option_and_then stated_cost text

-- The bytes mean a problem, and the start file's text, if there is one, gives a plan for it. This is the request's finding
-- for the problem with its trucks, and the text states it in the requested form, with the problem's name in the bytes and the
-- stated cost of the start file.
pub record AnswersRequest (request : Request) (may_stop : Bool) (bytes : List ℕ) (start_text : Option (List ℕ)) (finding : FindingOf) (text : List ℕ) : Type 0 where
  pub meant : Problem
  pub means : MeansProblem bytes request.options.depot meant
  pub problem : Problem
  pub with_trucks : problem ≡ limited request.options.trucks meant
  pub start : Option PricedPlan
  pub gives : GivesStart problem start_text start
  pub found : IsFoundBy request may_stop problem start finding
  pub told : IsTextIn request.format (context_of request (name_of bytes) (start_cost start_text)) problem finding text

-- the text is the whole content of a file, given what is known of its bytes
pub record IsFile (unread : Option (List ℕ)) (text : List ℕ) : Type 0 where
  pub after : Option (List ℕ)
  pub input : IsInput unread after text
  pub bounded : length text ≤ MAX_BYTES

-- the text is the whole content of the start plan's file, if one is given
abbrev pub ReadsStart : {S : Type 0} → (S → Option (List ℕ)) → Option (StartFile S) → Option (List ℕ) → Type 0
ReadsStart unread None text = text ≡ None
ReadsStart unread (Some Unopened) text = ⊥
ReadsStart unread (Some (Opened file)) text = IsSomeAnd text (IsFile (unread file))

-- The bytes read answer a request, and the text of the answer was written, and nothing else. The known bytes of a reader and
-- of a writer are given before and after the call.
pub record PrintsRequest {S : Type 0} (request : Request) (may_stop : Bool) (unread_start : S → Option (List ℕ)) (start : Option (StartFile S))
    (unread_old unread_new written_old written_new : Option (List ℕ)) (ended : Status) : Type 0 where
  pub bytes : List ℕ
  pub input : IsInput unread_old unread_new bytes
  pub start_text : Option (List ℕ)
  pub start_read : ReadsStart unread_start start start_text
  pub finding : FindingOf
  pub text : List ℕ
  pub answers : AnswersRequest request may_stop bytes start_text finding text
  pub status : ended ≡ finding.status
  pub output : Appends written_old written_new text

-- the bytes read answer a request, and a beginning of the text of the answer was written
pub record PrintsPartOfRequest {S : Type 0} (request : Request) (may_stop : Bool) (unread_start : S → Option (List ℕ)) (start : Option (StartFile S))
    (unread_old unread_new written_old written_new : Option (List ℕ)) : Type 0 where
  pub bytes : List ℕ
  pub input : IsInput unread_old unread_new bytes
  pub start_text : Option (List ℕ)
  pub start_read : ReadsStart unread_start start start_text
  pub finding : FindingOf
  pub text : List ℕ
  pub answers : AnswersRequest request may_stop bytes start_text finding text
  pub output : AppendsPart written_old written_new text

-- the start plan, if one is given, is the one that its file's text gives
pub record BeginsWith {S : Type 0} (p : Problem) (unread : S → Option (List ℕ)) (file : Option (StartFile S)) (start : Option PricedPlan) : Type 0 where
  pub text : Option (List ℕ)
  pub read : ReadsStart unread file text
  pub gives : GivesStart p text start

-- the reason for refusing a file with this text
abbrev pub RefusesStartText : Problem → List ℕ → StartError → Type 0
RefusesStartText p text (start_fault.Refused error) = (error ≢ solution.OutOfMemory) × IsRefusedFor p text error
RefusesStartText p text start_fault.TooLong = MAX_BYTES < length text
RefusesStartText p text start_fault.Read = ⊥
RefusesStartText p text start_fault.OutOfMemory = ⊥

-- a file was read, at most to one byte beyond the limit of a file, and is refused for this reason
pub record RefusesFile (p : Problem) (unread : Option (List ℕ)) (error : StartError) : Type 0 where
  pub text : List ℕ
  pub after : Option (List ℕ)
  pub input : IsInput unread after text
  pub refused : RefusesStartText p text error

-- States a fact for a refused start plan, and nothing for a failed read or lack of memory.
abbrev pub OnRefusedStart : StartError → (StartError → Type 0) → Type 0
OnRefusedStart (start_fault.Refused error) P = P (start_fault.Refused error)
OnRefusedStart start_fault.TooLong P = P start_fault.TooLong
OnRefusedStart start_fault.Read P = ⊤
OnRefusedStart start_fault.OutOfMemory P = ⊤

-- the start plan's file is refused for this reason, as above
abbrev pub RefusesStartFile : {S : Type 0} → Problem → (S → Option (List ℕ)) → Option (StartFile S) → StartError → Type 0
RefusesStartFile p unread None error = ⊥
RefusesStartFile p unread (Some Unopened) error = ⊥
RefusesStartFile p unread (Some (Opened file)) error = RefusesFile p (unread file) error

-- a fault of a start plan comes only if there is a file for one
abbrev pub OnStartFault : {S : Type 0} → Option (StartFile S) → RequestError → Type 0
OnStartFault file (reason.Run fault) = ⊤
OnStartFault file (reason.Start error) = IsSome file
OnStartFault file reason.NoPoints = ⊤

-- the bytes read mean a problem, and the start plan is refused for this reason
pub record RefusesStart {S : Type 0} (request : Request) (unread_start : S → Option (List ℕ)) (start : Option (StartFile S)) (unread_old unread_new : Option (List ℕ)) (error : StartError) : Type 0 where
  pub problem : Problem
  pub read : ReadsProblem request.options unread_old unread_new problem
  pub refused : RefusesStartFile problem unread_start start error

-- States a fact for each refusal: of the file, of the start plan, and of a picture for a file without coordinates. It states
-- nothing for lack of memory and for failed reads and writes.
abbrev pub OnRefusal : RequestError → (TextError → Type 0) → (StartError → Type 0) → Type 0 → Type 0
OnRefusal (reason.Run fault) File Start Picture = OnRefusedFile fault File
OnRefusal (reason.Start error) File Start Picture = OnRefusedStart error Start
OnRefusal reason.NoPoints File Start Picture = Picture

-- the exit status of a request
abbrev pub request_code : Result Status RequestError → ℕ
request_code (Ok ended) = exit_code (Ok ended)
request_code (Err (reason.Run fault)) = exit_code (Err fault)
request_code (Err (reason.Start error)) = start_code error
request_code (Err reason.NoPoints) = 3
