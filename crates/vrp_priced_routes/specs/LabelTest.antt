-- The completion test by labels: what it counts along a beginning, and what is known of it.
use Rattle.std.specs.Prelude.{◌≡◌, ℕ, ℤ, List, reverse}
use Rattle.vrp_model.specs.CustomerSet.{set_of}
use Rattle.vrp_labels.specs.Completion.{CompletionsOf, IsForward}
use Rattle.vrp_labels.specs.Graph.{GraphOf}
use Rattle.vrp_labels.specs.Label.{IsLabelOf}
use Rattle.vrp_labels.specs.Route.{IsCheap}
use Rattle.vrp_labels.specs.declared.label.Label.{Label}
use Rattle.vrp_model.specs.Problem.{IsProblem, Problem, place_count}
use Rattle.vrp_model.specs.Word.{last_symbol}
use Rattle.vrp_routes.specs.Useful.{IsUsefulIn}
use Rattle.vrp_priced_routes.specs.declared.label_test.LabelResources.{LabelResources}
use Rattle.vrp_routes.specs.declared.plan_range.PlanRange.{PlanRange}

-- a problem, the range of plans in which the canonical plan is sought, and the completions of beginnings
pub record LabelTestOf : Type 0 where
  pub problem : Problem
  pub range : PlanRange
  pub completions : CompletionsOf

-- the label of a beginning with these customers and this last stop
abbrev pub label_by : LabelResources → ℕ → ℕ → Label
label_by resources set last = record {
  visited = set;
  rows = resources.rows;
  cost = resources.cost;
  load = resources.load;
  at = last;
}

-- so much is counted along these stops
pub record AreLabelled (g : GraphOf) (stops : List ℕ) (resources : LabelResources) : Type 0 where
  pub forward : IsForward g (reverse stops) (label_by resources (set_of stops) (last_symbol stops))
  pub label : IsLabelOf g (label_by resources (set_of stops) (last_symbol stops))

-- what is known of every test by labels that is made: useful routes are cheap
pub record IsLabelTest (t : LabelTestOf) (graph : GraphOf) (gap : ℤ) : Type 0 where
  pub graph_is : graph ≡ t.completions.graph
  pub gap_is : gap ≡ t.completions.gap
  pub problem : IsProblem t.problem
  pub places : t.completions.graph.folded.places ≡ place_count t.problem
  pub cheap : (stops : List ℕ) → IsUsefulIn t.problem t.range stops → IsCheap t.completions.graph t.completions.gap stops
