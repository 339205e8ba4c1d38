-- A graph of labels by dual prices, and what its closed labels say of plans.
use Rattle.std.specs.Prelude.{◌≡◌, ◌≤◌, ◌≤ℤ◌, ◌+ℤ◌, ℕ, ℤ, pos, List, length, unsigned_abs}
use Rattle.std.specs.List.{All}
use Rattle.vrp_model.specs.declared.customers.customer_set.TheConstants.{PLACES}
use Rattle.vrp_model.specs.Problem.{IsProblem, Problem, customers, place_count}
use Rattle.vrp_model.specs.Route.{IsLawful, plan_cost}
use Rattle.vrp_model.specs.declared.limits.TheConstants.{MAX_NODES, NO_COST}
use Rattle.vrp_duals.specs.Duals.{AreDualsOf, DualsOf, Obeys, low_of}
use Rattle.vrp_duals.specs.declared.limits.TheConstants.{MAX_LOW, MAX_SCALE}
use Rattle.vrp_duals.specs.Folding.{IsFolded, folded_cost}
use Rattle.vrp_labels.specs.Closing.{AreKept}
use Rattle.vrp_labels.specs.Graph.{GraphOf}
use Rattle.vrp_labels.specs.Label.{IsClosed}
use Rattle.vrp_labels.specs.Plans.{IsGapFor}
use Rattle.vrp_labels.specs.Route.{IsAliveRoute}
use Rattle.vrp_labels.specs.declared.label.Label.{Label}
use Rattle.vrp_priced_routes.specs.declared.bounds.PriceBound.{PriceBound}
use Rattle.vrp_routes.specs.Range.{IsInRange}
use Rattle.vrp_routes.specs.declared.plan_range.PlanRange.{PlanRange}

pub record PricedOf : Type 0 where
  pub problem : Problem
  -- which plans are sought
  pub range : PlanRange
  pub duals : DualsOf
  pub graph : GraphOf

-- the prices are of the problem, and the feasible plans in the range obey the entry rows and go along the graph's arcs
pub record IsPriced (s : PricedOf) : Type 0 where
  pub problem : IsProblem s.problem
  pub few : place_count s.problem ≤ PLACES
  pub moderate : s.range.limit ≤ NO_COST
  pub duals : AreDualsOf s.problem s.duals
  pub folded : IsFolded s.problem s.duals s.graph.folded
  pub obeyed : (routes : List (List ℕ)) → IsLawful s.problem routes → IsInRange s.problem s.range routes → All (Obeys routes) s.duals.entries
  pub alive : (routes : List (List ℕ)) → IsLawful s.problem routes → IsInRange s.problem s.range routes → All (IsAliveRoute s.graph) routes

-- the scale and the lower bound of the prices, and the number of customers
pub record IsPriceBound (s : PricedOf) (bound : PriceBound) : Type 0 where
  pub scale : bound.scale ≡ s.duals.scale
  pub low : bound.low ≡ low_of s.duals
  pub customers : bound.customers ≡ length (customers s.problem)
  pub some_scale : 1 ≤ bound.scale
  pub small_scale : bound.scale ≤ MAX_SCALE
  pub small_low : unsigned_abs bound.low ≤ MAX_LOW
  pub few : bound.customers ≤ MAX_NODES

-- no route of the graph costs less than this much below 0, in price units
abbrev pub HasDepth : GraphOf → ℕ → Type 0
HasDepth g depth = (route : List ℕ) → IsAliveRoute g route → pos 0 ≤ℤ (folded_cost g.folded route +ℤ pos depth)

-- no feasible plan within the limit costs less than the bound
abbrev pub BoundsPlans : Problem → ℕ → ℕ → Type 0
BoundsPlans p limit bound = (routes : List (List ℕ)) → IsLawful p routes → plan_cost p routes ≤ limit → bound ≤ plan_cost p routes

-- no feasible plan in the range costs less than the bound
abbrev pub BoundsPlansIn : Problem → PlanRange → ℕ → Type 0
BoundsPlansIn p range bound = (routes : List (List ℕ)) → IsLawful p routes → IsInRange p range routes → bound ≤ plan_cost p routes

-- labels that are closed in such a graph, with a gap that is wide enough, and a lower bound
pub record PricedLabelsOf : Type 0 where
  pub priced : PricedOf
  pub gap : ℤ
  pub labels : List (List Label)
  pub bound : ℕ

pub record ArePricedLabels (s : PricedLabelsOf) : Type 0 where
  pub priced : IsPriced s.priced
  pub gap : IsGapFor s.priced.duals s.priced.graph (length (customers s.priced.problem)) s.priced.range.limit s.gap
  pub kept : AreKept s.priced.graph s.labels
  pub closed : IsClosed s.priced.graph s.gap s.labels
  pub bound : BoundsPlansIn s.priced.problem s.priced.range s.bound
