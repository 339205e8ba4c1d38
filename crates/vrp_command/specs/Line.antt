-- What a command line prints, and with which exit status.
use Rattle.std.specs.Borrow.{Bor}
use Rattle.std.specs.Io.KnownBytes.{Appends, Keeps}
use Rattle.std.specs.Prelude.{◌≡◌, ◌⊎◌, ℕ, Bool, IsSomeAnd, IsTrue, Option, Some, List, Ok, is_some}
use Rattle.vrp_answer.specs.Finding.{FindingOf}
use Rattle.vrp_answer.specs.declared.status.Status.TheVariants.{Lawful}
use Rattle.vrp_command.specs.Program.{AnswersRequest, may_stop_by}
use Rattle.vrp_command_request.specs.Arguments.{AsksForHelp, IsAskedBy}
use Rattle.vrp_command_request.specs.declared.options.Request.{Request}
use Rattle.vrp_command_streams.specs.Fault.{exit_code}
use Rattle.vrp_command_streams.specs.Input.{IsInput}
use Rattle.vrp_model.specs.Route.{PricedPlan}
use Rattle.vrp_plan_text.specs.Solution.{StatesOtherCost}

-- the start plan's file states another cost than that of the plan that is told
abbrev pub IsOtherwiseStated : Option (List ℕ) → FindingOf → Type 0
IsOtherwiseStated start_text finding = IsSomeAnd start_text (λ text. (plan : PricedPlan) × (finding.plan ≡ Some plan) × StatesOtherCost text plan.cost)

-- The exit status is that of the verdict; only with `--strict` is it 6, and exactly if the file of a checked plan states a wrong cost.
pub record IsStatusOf (strict : Bool) (start_text : Option (List ℕ)) (finding : FindingOf) (status : ℕ) : Type 0 where
  pub usual : (status ≡ exit_code (Ok finding.status)) ⊎ (status ≡ 6)
  pub other : status ≡ 6 → IsTrue strict × (finding.status ≡ Lawful) × IsOtherwiseStated start_text finding
  pub told : IsTrue strict → finding.status ≡ Lawful → IsOtherwiseStated start_text finding → status ≡ 6

-- The bytes read, and the start plan's file if one is named, answer a request; the text of the answer was written, and nothing else.
pub record AnswersLine (request : Request) (gate : Bool) (unread_old unread_new written_old written_new : Option (List ℕ)) (ended : ℕ) : Type 0 where
  pub bytes : List ℕ
  pub input : IsInput unread_old unread_new bytes
  pub start_text : Option (List ℕ)
  pub start_named : is_some start_text ≡ is_some request.start
  pub finding : FindingOf
  pub text : List ℕ
  pub answers : AnswersRequest request (may_stop_by request.seconds gate) bytes start_text finding text
  pub output : Appends written_old written_new text
  pub status : IsStatusOf request.strict start_text finding ended

-- the arguments ask for a request, and it was answered so
pub record PrintsLine (arguments : List (Bor (List ℕ))) (gate : Bool) (unread_old unread_new written_old written_new : Option (List ℕ)) (ended : ℕ) : Type 0 where
  pub request : Request
  pub asked : IsAskedBy arguments request
  pub answered : AnswersLine request gate unread_old unread_new written_old written_new ended

-- the arguments ask for the help or the version, and nothing was read
pub record TellsHelp (arguments : List (Bor (List ℕ))) (unread_old unread_new : Option (List ℕ)) (ended : ℕ) : Type 0 where
  pub asked : AsksForHelp arguments
  pub unread : Keeps unread_old unread_new
  pub status : ended ≡ 0

-- an exit status with which something was told: 0, 1 or 6
abbrev pub IsTelling : ℕ → Type 0
IsTelling status = (status ≡ 0) ⊎ ((status ≡ 1) ⊎ (status ≡ 6))

-- an exit status with which nothing was told: 2, 3 or 4
abbrev pub IsRefusing : ℕ → Type 0
IsRefusing status = (status ≡ 2) ⊎ ((status ≡ 3) ⊎ (status ≡ 4))
