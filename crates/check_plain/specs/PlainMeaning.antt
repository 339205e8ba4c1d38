-- The problem that a plain file means (TSPLIB 95, section 1, type CVRP).
use Rattle.std.specs.Prelude.{◌≡◌, ℕ, ◌≤◌, None, List, [], ◌∷◌, slice_index}
use Rattle.vrp_model.specs.declared.metric.Metric.TheVariants.{Euc2d}
use Rattle.vrp_model.specs.Grid.{Grid, HasDistances}
use Rattle.vrp_model.specs.Problem.{Problem}
use Rattle.vrp_model.specs.Request.{Request, request_of, problem_of, node_demand}
use Rattle.check_plain.specs.Plain.{Statement, Spells}

-- the depot has no demand, and no demand is more than a truck can carry
pub record FitsTrucks (statement : Statement) : Type 0 where
  pub empty_depot : node_demand statement.demands statement.depot ≡ 0
  pub each_fits : (k : ℕ) → slice_index statement.demands k ≤ statement.capacity

-- the bytes are a plain file, which states this
pub record IsPlain (bytes : List ℕ) (statement : Statement) : Type 0 where
  pub spelled : Spells bytes statement
  pub carried : FitsTrucks statement

-- the stated demands, capacity and depot, over this grid of weights
abbrev pub request_from : Statement → Grid → Request
request_from statement grid = request_of grid statement.demands statement.capacity (statement.depot ∷ []) None

-- the bytes are a plain file, and this is the problem that it means
pub record MeansPlainly (bytes : List ℕ) (problem : Problem) : Type 0 where
  pub statement : Statement
  pub plain : IsPlain bytes statement
  pub grid : Grid
  pub distances : HasDistances Euc2d statement.points grid
  pub meant : problem ≡ problem_of (request_from statement grid)

abbrev pub IsNotPlain : List ℕ → Type 0
IsNotPlain bytes = (statement : Statement) → IsPlain bytes statement → ⊥
