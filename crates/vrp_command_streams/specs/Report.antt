-- The program's output: a line for each route, the cost, and the verdict.
use Rattle.std.specs.Prelude.{ℕ, ◌+◌, ◌<◌, All, Option, None, Some, List, [], ◌∷◌, ◌++◌, codes, decimal, unwrap_or}
use Rattle.std.specs.List.{flat_map}
use Rattle.vrp_model.specs.Problem.{Problem, node_of, place_count}
use Rattle.vrp_model.specs.Route.{PricedPlan}
use Rattle.vrp_answer.specs.Finding.{FindingOf}
use Rattle.vrp_answer.specs.declared.status.Status.{Status}
use Rattle.vrp_answer.specs.declared.status.Status.TheVariants as status

-- the stops of all these routes are places of the problem
abbrev pub HasStopsIn : Problem → List (List ℕ) → Type 0
HasStopsIn p routes = All (λ route. All (λ place. place < place_count p) route) routes

-- the numbers of a route's stops, each preceded by a space
abbrev pub stops_text : (ℕ → ℕ) → List ℕ → List ℕ
stops_text number_of stops = flat_map (λ place. codes " " ++ decimal (number_of place)) stops

abbrev pub route_line : (ℕ → ℕ) → ℕ → List ℕ → List ℕ
route_line number_of number stops = codes "Route #" ++ decimal number ++ codes ":" ++ stops_text number_of stops ++ codes "\n"

-- a line for each route, numbered from here on
abbrev pub route_lines : (ℕ → ℕ) → ℕ → List (List ℕ) → List ℕ
route_lines number_of number [] = []
route_lines number_of number (stops ∷ routes) = route_line number_of number stops ++ route_lines number_of (number + 1) routes

abbrev pub cost_line : ℕ → List ℕ
cost_line cost = codes "Cost " ++ decimal cost ++ codes "\n"

-- a line for each route, and the cost; nothing if there is no plan
abbrev pub plan_lines : (ℕ → ℕ) → Option PricedPlan → List ℕ
plan_lines number_of None = []
plan_lines number_of (Some plan) = route_lines number_of 1 plan.routes ++ cost_line plan.cost

-- `Open` is followed by a number below which no feasible plan costs
abbrev pub verdict_line : Status → Option ℕ → List ℕ
verdict_line status.Open bound = codes "Open " ++ decimal (unwrap_or bound 0) ++ codes "\n"
verdict_line status.Proven bound = codes "Proven\n"
verdict_line status.NoPlan bound = codes "NoPlan\n"
verdict_line status.Lawful bound = codes "Lawful\n"

-- the report, with the file's node numbers for stops
abbrev pub report_of : Problem → FindingOf → List ℕ
report_of p finding = plan_lines (node_of p) finding.plan ++ verdict_line finding.status finding.lower_bound

-- a plan in CVRPLIB's format, with places for stops and without a verdict
abbrev pub solution_of : FindingOf → List ℕ
solution_of finding = plan_lines (λ place. place) finding.plan
