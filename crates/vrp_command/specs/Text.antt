-- The text of a finding, in the form of a request.
use Rattle.std.specs.Prelude.{◌≡◌, ℕ, if◌then◌else◌, Option, None, Some, List, ⊤}
use Rattle.vrp_answer.specs.Finding.{FindingOf}
use Rattle.vrp_plan_text.specs.Json.{ContextOf, IsJsonOf}
use Rattle.vrp_plan_text.specs.declared.writing.json.Settings.{Settings}
use Rattle.vrp_model.specs.Problem.{Problem}
use Rattle.vrp_command_request.specs.declared.grammar.TheConstants.{VERSION}
use Rattle.vrp_command_request.specs.declared.options.Format.{Format}
use Rattle.vrp_command_request.specs.declared.options.Format.TheVariants as format
use Rattle.vrp_command_request.specs.declared.options.Request.{Request}
use Rattle.vrp_command_streams.specs.Report.{report_of, solution_of}

-- the budget that a request states
abbrev pub budget_of : Request → Option ℕ
budget_of request = if request.states_budget then Some request.options.budget else None

-- the options of the run, as they are printed
abbrev pub settings_of : Request → Settings
settings_of request = record { workers = request.options.workers; pieces = request.options.pieces; budget = budget_of request; seconds = request.seconds; depot = request.options.depot; trucks = request.options.trucks }

-- the context of a finding, given the file's name for itself and the stated cost of the start plan
abbrev pub context_of : Request → Option (List ℕ) → Option ℕ → ContextOf
context_of request name stated_cost = record { name = name; version = VERSION.now; stated_cost = stated_cost; asked = settings_of request }

-- the text states a finding in this form; nothing is said about a picture
abbrev pub IsTextIn : Format → ContextOf → Problem → FindingOf → List ℕ → Type 0
IsTextIn format.Report context p finding text = text ≡ report_of p finding
IsTextIn format.Solution context p finding text = text ≡ solution_of finding
IsTextIn format.Json context p finding text = IsJsonOf p finding context text
IsTextIn format.Picture context p finding text = ⊤
