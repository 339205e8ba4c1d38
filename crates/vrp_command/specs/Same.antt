-- The common output of two runs that answer Proven over the same bytes.
use Rattle.std.specs.Prelude.{◌≡◌, ℕ, List, ⊤}
use Rattle.vrp_answer.specs.Finding.{FindingOf}
use Rattle.vrp_command_request.specs.declared.options.Format.{Format}
use Rattle.vrp_command_request.specs.declared.options.Format.TheVariants as format
use Rattle.vrp_command_request.specs.declared.options.Request.{Request}

-- only the finding is printed in this form: JSON also has the options of the run, and nothing is known of a picture
abbrev pub IsOfFindingAlone : Format → Type 0
IsOfFindingAlone format.Report = ⊤
IsOfFindingAlone format.Solution = ⊤
IsOfFindingAlone format.Json = ⊥
IsOfFindingAlone format.Picture = ⊥

-- both have the same plan, verdict and bound; if both print it in one such form, they print the same bytes
pub record TellsSame (request other : Request) (finding found : FindingOf) (text printed : List ℕ) : Type 0 where
  pub same : finding ≡ found
  pub as_text : request.format ≡ other.format → IsOfFindingAlone request.format → text ≡ printed
