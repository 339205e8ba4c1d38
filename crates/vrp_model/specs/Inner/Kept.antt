-- The data of an instance: a problem, the least arcs into its places, and whether it is symmetric.
use Rattle.std.specs.Prelude.{◌↔◌, ℕ, Bool, IsTrue, Option, List}
use Rattle.vrp_model.specs.Inner.LeastArcs.{AreLeastArcs}
use Rattle.vrp_model.specs.Problem.{IsProblem, IsSymmetric, Problem}

-- the problem that an instance is
abbrev pub problem_with : List ℕ → List ℕ → List ℕ → ℕ → Option ℕ → Problem
problem_with nodes demands weights capacity trucks =
    record { nodes = nodes; demands = demands; weights = weights; capacity = capacity; trucks = trucks }

pub record IsKeptProblem (p : Problem) (least_in : List ℕ) (symmetric : Bool) : Type 0 where
  pub problem : IsProblem p
  pub least : AreLeastArcs p least_in
  pub told : IsTrue symmetric ↔ IsSymmetric p
