-- The numbers by which the places of a plan are printed.
use Rattle.std.specs.Prelude.{ℕ, ◌<◌, All, List, ⊤}
use Rattle.vrp_model.specs.Problem.{node_of, place_count}
use Rattle.vrp_command_streams.specs.declared.report.StopNumbers.{StopNumbers}
use Rattle.vrp_command_streams.specs.declared.report.StopNumbers.TheVariants.{Nodes, Places}

-- the number of a place
abbrev pub number_in : StopNumbers → ℕ → ℕ
number_in (Nodes instance) place = node_of instance.now place
number_in Places place = place

-- the place has a number
abbrev pub HasNumber : StopNumbers → ℕ → Type 0
HasNumber (Nodes instance) place = place < place_count instance.now
HasNumber Places place = ⊤

-- the stops of all these routes have numbers
abbrev pub HaveNumbers : StopNumbers → List (List ℕ) → Type 0
HaveNumbers numbering routes = All (λ route. All (HasNumber numbering) route) routes
