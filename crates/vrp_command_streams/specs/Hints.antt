-- The content of hints.
use Rattle.std.specs.Prelude.{◌≡◌, ◌≤◌, ℕ, ℤ, Err, None, Option, Some, List, ⊤}
use Rattle.std.specs.Option.{ForSome}
use Rattle.vrp_command_streams.specs.declared.answer.AnswerHint.{AnswerHint}
use Rattle.vrp_command_streams.specs.declared.answer.AnswerHint.TheVariants as answer
use Rattle.vrp_command_streams.specs.declared.file.FileHint.{FileHint}
use Rattle.vrp_command_streams.specs.declared.file.FileHint.TheVariants as file
use Rattle.vrp_text.specs.Numeral.{number_of}
use Rattle.vrp_text.specs.declared.lexer.fault.FileLineFault.TheVariants.{NotWhole}
use Rattle.vrp_model.specs.Problem.{Problem, customers}
use Rattle.vrp_model.specs.Route.{load_of}
use Rattle.vrp_model.specs.declared.limits.TheConstants.{MAX_NODES}

-- a token is a number that isn't whole
abbrev pub IsFraction : List ℕ → Type 0
IsFraction token = (low high : ℤ) × (number_of low high token ≡ Err NotWhole)

-- the statements of a hint about a token, trucks and nodes are true
abbrev pub IsSound : FileHint → Type 0
IsSound file.Empty = ⊤
IsSound (file.NoNumber token) = ⊤
IsSound (file.NotWhole token section) = IsFraction token.0.now
IsSound (file.Trucks keyword trucks) = ForSome trucks (λ trucks. (1 ≤ trucks) × (trucks ≤ MAX_NODES))
IsSound (file.OtherProblem keyword states) = ⊤
IsSound file.SmallLetters = ⊤
IsSound (file.Value key value) = ⊤
IsSound (file.BehindSection key) = ⊤
IsSound (file.Count section numbers nodes needed) = (1 ≤ nodes) × (nodes ≤ MAX_NODES)
IsSound file.NoDepot = ⊤
IsSound (file.NodeZero key) = ⊤

-- the hint on too few trucks: the total demand of the problem's customers, and the capacity of each truck
abbrev pub few_trucks : Problem → Option ℕ → Option AnswerHint
few_trucks p None = None
few_trucks p (Some trucks) = Some (answer.FewTrucks (load_of p (customers p)) trucks p.capacity)
