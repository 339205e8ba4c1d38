-- What is counted along the beginning of a route.
use Rattle.std.specs.Prelude.{◌≡◌, ◌≢◌, ℕ, ◌*◌, ◌≤◌, List, length, slice_index}
use Rattle.std.specs.List.{All, AllPairs, Contains}
use Rattle.vrp_model.specs.Problem.{Problem, customers}
use Rattle.vrp_model.specs.Route.{load_of}
use Rattle.vrp_model.specs.Word.{last_symbol, word_cost}
use Rattle.vrp_model.specs.declared.limits.TheConstants.{MAX_WEIGHT}
use Rattle.vrp_model.specs.CustomerSet.{set_of}
use Rattle.vrp_routes.specs.declared.label.Label.{Label}
use Rattle.vrp_routes.specs.declared.plan_range.PlanRange.{PlanRange}

-- a route may begin so: customers, none of them twice, whom one truck can carry
pub record IsBeginning (p : Problem) (stops : List ℕ) : Type 0 where
  pub known : All (Contains (customers p)) stops
  pub once : AllPairs (λ a b. a ≢ b) stops
  pub light : load_of p stops ≤ p.capacity

-- so it may, and these are its customers, their load and its last stop
pub record IsBeginningWith (p : Problem) (stops : List ℕ) (set load last : ℕ) : Type 0 where
  pub begins : IsBeginning p stops
  pub set_is : set ≡ set_of stops
  pub load_is : load ≡ load_of p stops
  pub last_is : last ≡ last_symbol stops

-- a problem, the range of a canonical plan, and which resources a test counts along which stops
pub record SettingOf (X : Type 0) : Type 1 where
  pub problem : Problem
  pub range : PlanRange
  pub Counts : List ℕ → X → Type 0

-- so much is counted along these stops, in the problem and by the test
pub record IsLabel {X : Type 0} (s : SettingOf X) (stops : List ℕ) (label : Label X) : Type 0 where
  pub begins : IsBeginning s.problem stops
  pub first : label.first ≡ slice_index stops 0
  pub last : label.last ≡ last_symbol stops
  pub set : label.set ≡ set_of stops
  pub load : label.load ≡ load_of s.problem stops
  pub cost : label.cost ≡ word_cost s.problem stops
  pub small_cost : label.cost ≤ MAX_WEIGHT * length stops
  pub counted : s.Counts stops label.resources
