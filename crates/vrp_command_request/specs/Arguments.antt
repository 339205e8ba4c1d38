-- The arguments of a command line, and the exit status of those that request no run.
use Rattle.std.specs.Borrow.{Bor}
use Rattle.std.specs.Io.{StartsWith}
use Rattle.std.specs.List.{HoldsAt}
use Rattle.std.specs.Prelude.{◌≡◌, ◌⊎◌, ◌<◌, ◌↔◌, ℕ, IsTrue, List, Option, None, Some, codes, length}
use Rattle.vrp_command_request.specs.declared.arguments.LineFault.{LineFault}
use Rattle.vrp_command_request.specs.declared.arguments.LineFault.TheVariants as line
use Rattle.vrp_command_request.specs.declared.limits.TheConstants.{MAX_BUDGET}
use Rattle.vrp_command_request.specs.declared.options.Options.{Options}
use Rattle.vrp_command_request.specs.declared.options.Request.{Request}
use Rattle.vrp_command_request.specs.Given.{GivesEither, GivesValue, IsGiven, IsGivenForm, IsGivenNumber, IsNumberOr}

-- one of the arguments is this one
abbrev pub HasArgument : List (Bor (List ℕ)) → List ℕ → Type 0
HasArgument arguments argument = (k : ℕ) × (k < length arguments) × HoldsAt (λ given. given.now ≡ argument) arguments k

-- one of the arguments begins with this
abbrev pub HasArgumentFrom : List (Bor (List ℕ)) → List ℕ → Type 0
HasArgumentFrom arguments start = (k : ℕ) × (k < length arguments) × HoldsAt (λ given. StartsWith given.now start) arguments k

-- one of the arguments begins with a flag of the help or of the version
abbrev pub AsksForHelp : List (Bor (List ℕ)) → Type 0
AsksForHelp arguments = (HasArgumentFrom arguments (codes "-h") ⊎ HasArgumentFrom arguments (codes "--help"))
    ⊎ (HasArgumentFrom arguments (codes "-V") ⊎ HasArgumentFrom arguments (codes "--version"))

abbrev pub line_code : LineFault → ℕ
line_code (line.Help text) = 0
line_code (line.Refused text) = 2
line_code line.OutOfMemory = 4

-- the default budget under a limit of seconds, and under none
abbrev pub budget_within : Option ℕ → ℕ
budget_within None = 10000000
budget_within (Some seconds) = MAX_BUDGET

-- the arguments give each of these options by its name or alias, under this default budget
pub record AreAskedBy (arguments : List (Bor (List ℕ))) (default_budget : ℕ) (options : Options) : Type 0 where
  pub workers : IsNumberOr (GivesEither arguments (codes "--workers") (codes "--threads")) 1 options.workers
  pub pieces : IsNumberOr (GivesValue arguments (codes "--pieces")) 64 options.pieces
  pub budget : IsNumberOr (GivesValue arguments (codes "--budget")) default_budget options.budget
  pub depot : IsGivenNumber (GivesValue arguments (codes "--depot")) options.depot
  pub trucks : IsGivenNumber (GivesEither arguments (codes "--trucks") (codes "--vehicles")) options.trucks

-- the arguments give this limit of seconds, or none
abbrev pub IsGivenLimit : List (Bor (List ℕ)) → Option ℕ → Type 0
IsGivenLimit arguments seconds = IsGivenNumber (GivesEither arguments (codes "--seconds") (codes "--time-limit")) seconds

-- the arguments give these options, under the default budget of their limit of seconds
abbrev pub AreAskedUnderLimit : List (Bor (List ℕ)) → Options → Type 0
AreAskedUnderLimit arguments options = (seconds : Option ℕ) × IsGivenLimit arguments seconds × AreAskedBy arguments (budget_within seconds) options

-- the arguments give each part of this request by its name or alias
pub record IsAskedBy (arguments : List (Bor (List ℕ))) (request : Request) : Type 0 where
  pub options : AreAskedBy arguments (budget_within request.seconds) request.options
  pub seconds : IsGivenLimit arguments request.seconds
  pub states_budget : IsTrue request.states_budget ↔ ((text : List ℕ) × GivesValue arguments (codes "--budget") text)
  pub progress : IsTrue request.progress ↔ HasArgument arguments (codes "--progress")
  pub start : IsGiven (GivesValue arguments (codes "--start")) request.start
  pub check : IsTrue request.check ↔ HasArgument arguments (codes "--check")
  pub strict : IsTrue request.strict ↔ HasArgument arguments (codes "--strict")
  pub explain : IsTrue request.explain ↔ HasArgument arguments (codes "--explain")
  pub format : IsGivenForm (GivesValue arguments (codes "--format")) request.format
