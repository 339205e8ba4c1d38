-- A form, and the text written in it.
use Rattle.std.specs.Io.KnownBytes.{Appends}
use Rattle.std.specs.Prelude.{◌≡◌, ℕ, Option, List, ⊤}
use Rattle.vrp_answer.specs.Finding.{FindingOf}
use Rattle.vrp_command.specs.declared.form.Form.{Form}
use Rattle.vrp_command.specs.declared.form.Form.TheVariants as form
use Rattle.vrp_plan_text.specs.Json.{ContextOf, IsJsonOf, context_by}
use Rattle.vrp_model.specs.Problem.{Problem}
use Rattle.vrp_command_request.specs.declared.options.Format.{Format}
use Rattle.vrp_command_request.specs.declared.options.Format.TheVariants as format
use Rattle.vrp_command_streams.specs.Output.{AppendsPart}
use Rattle.vrp_command_streams.specs.Report.{report_of, solution_of}

-- this form is requested, and for JSON it comes with this context
abbrev pub IsFormIn : Format → ContextOf → Form → Type 0
IsFormIn asked context form.Report = asked ≡ format.Report
IsFormIn asked context form.Solution = asked ≡ format.Solution
IsFormIn asked context (form.Json told) = (asked ≡ format.Json) × (context_by told ≡ context)
IsFormIn asked context (form.Picture points) = asked ≡ format.Picture

-- the text states a finding in this form
abbrev pub IsTextAs : Form → Problem → FindingOf → List ℕ → Type 0
IsTextAs form.Report p finding text = text ≡ report_of p finding
IsTextAs form.Solution p finding text = text ≡ solution_of finding
IsTextAs (form.Json told) p finding text = IsJsonOf p finding (context_by told) text
IsTextAs (form.Picture points) p finding text = ⊤

-- such a text was written, and nothing else
pub record WritesText (asked : Form) (p : Problem) (finding : FindingOf) (written_old written_new : Option (List ℕ)) : Type 0 where
  pub text : List ℕ
  pub told : IsTextAs asked p finding text
  pub output : Appends written_old written_new text

-- a beginning of such a text was written
pub record WritesPart (asked : Form) (p : Problem) (finding : FindingOf) (written_old written_new : Option (List ℕ)) : Type 0 where
  pub text : List ℕ
  pub told : IsTextAs asked p finding text
  pub output : AppendsPart written_old written_new text
