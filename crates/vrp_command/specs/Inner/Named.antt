-- A problem that is read together with its file's name for itself.
use Rattle.std.specs.Prelude.{◌≡◌, ℕ, Option, List}
use Rattle.vrp_command.specs.Run.{ReadsProblem}
use Rattle.vrp_plan_text.specs.Name.{name_of}
use Rattle.vrp_model.specs.Problem.{Problem}
use Rattle.vrp_command_request.specs.declared.options.Format.{Format}
use Rattle.vrp_command_request.specs.declared.options.Format.TheVariants as format
use Rattle.vrp_command_request.specs.declared.options.Options.{Options}

-- the bytes read mean this problem, and for JSON this is the name in them
pub record ReadsNamed (options : Options) (asked : Format) (unread_old unread_new : Option (List ℕ)) (problem : Problem) (name : Option (List ℕ)) : Type 0 where
  pub read : ReadsProblem options unread_old unread_new problem
  pub named : asked ≡ format.Json → name ≡ name_of read.bytes
