-- Whether a problem has the coordinates that a picture needs.
use Rattle.std.specs.Prelude.{◌≡◌, IsSome}
use Rattle.vrp_command.specs.declared.problem.Problem.{Problem}
use Rattle.vrp_command_request.specs.declared.options.Format.{Format}
use Rattle.vrp_command_request.specs.declared.options.Format.TheVariants as format

-- if a picture is requested, there are coordinates to draw
abbrev pub HasPoints : Format → Problem → Type 0
HasPoints asked problem = asked ≡ format.Picture → IsSome problem.beside.points
