-- The result for a complete file.
use Rattle.std.specs.Prelude.{◌≡◌, ◌≢◌, ◌⊎◌, ℕ, Option, Some, None}
use Rattle.vrp_model.specs.Grid.{Grid}
use Rattle.vrp_model.specs.Problem.{Problem}
use Rattle.vrp_model.specs.Refusal.{IsRefusal}
use Rattle.vrp_model.specs.Request.{problem_of, IsAcceptable}
use Rattle.vrp_model.specs.declared.instance.InstanceError.{InstanceError}
use Rattle.vrp_model.specs.declared.instance.InstanceError.TheVariants as refusal
use Rattle.vrp_text.specs.Complete.{Complete, nodes_fault}
use Rattle.vrp_text.specs.Meaning.{HasWeights, request_from}
use Rattle.vrp_text.specs.declared.error.TextError.{TextError}
use Rattle.vrp_text.specs.declared.error.TextError.TheVariants as error

-- the problem that a complete file states
pub record StatesProblem (complete : Complete) (chosen : Option ℕ) (problem : Problem) : Type 0 where
  pub grid : Grid
  pub weights : HasWeights complete.nodes complete.source grid
  pub acceptable : IsAcceptable (request_from complete chosen grid)
  pub meant : problem ≡ problem_of (request_from complete chosen grid)

-- the nodes are right, but no instance can be made, for any weights
pub record StatesNoInstance (complete : Complete) (chosen : Option ℕ) (fault : TextError) : Type 0 where
  pub sound : nodes_fault complete ≡ None
  pub of_instance : InstanceError
  pub is : fault ≡ error.Instance of_instance
  pub refused : (grid : Grid) → IsRefusal (request_from complete chosen grid) of_instance
  pub of_file : of_instance ≢ refusal.OutOfMemory

abbrev pub IsStatedRefusal : Complete → Option ℕ → TextError → Type 0
IsStatedRefusal complete chosen fault = (nodes_fault complete ≡ Some fault) ⊎ StatesNoInstance complete chosen fault
