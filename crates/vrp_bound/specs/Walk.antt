-- The q-routes of Christofides, Mingozzi and Toth (1981): walks from a place to the depot that may visit a customer again.
use Rattle.std.specs.Prelude.{◌≡◌, ◌≢◌, ℕ, zero, suc, ◌+◌, ◌≤◌, List, [], ◌∷◌, ◌++◌}
use Rattle.std.specs.List.{All, Contains, sum_by}
use Rattle.vrp_model.specs.Problem.{Problem}
use Rattle.vrp_model.specs.Route.{load_of, cost_along}

-- the first stop is not this place, and no two consecutive stops are equal
abbrev pub NeighborsDiffer : ℕ → List ℕ → Type 0
NeighborsDiffer at [] = Unit {0}
NeighborsDiffer at (stop ∷ stops) = (at ≢ stop) × NeighborsDiffer stop stops

-- a walk from a place through some of these customers
pub record IsWalk (p : Problem) (among : List ℕ) (at : ℕ) (stops : List ℕ) : Type 0 where
  pub within : All (Contains among) stops
  pub differ : NeighborsDiffer at stops

-- the cost from the place through the stops to the depot
abbrev pub walk_cost : Problem → ℕ → List ℕ → ℕ
walk_cost p at stops = cost_along p at (stops ++ 0 ∷ [])

-- a closed walk of one truck
pub record IsTour (p : Problem) (among stops : List ℕ) : Type 0 where
  pub leaves : stops ≢ []
  pub walks : IsWalk p among 0 stops
  pub fits : load_of p stops ≤ p.capacity

-- A relaxed completion: the open truck's walk home, if one is out at a customer, and tours.
pub record IsRelaxed (p : Problem) (among : List ℕ) (at load rest : ℕ) (home : List ℕ) (tours : List (List ℕ)) : Type 0 where
  pub walks : IsWalk p among at home
  pub none_out : at ≡ 0 → home ≡ []
  pub fits : load + load_of p home ≤ p.capacity
  pub each : All (IsTour p among) tours
  pub whole : load_of p home + sum_by (load_of p) tours ≡ rest

-- at the depot no arc home is paid
abbrev pub home_cost : Problem → ℕ → List ℕ → ℕ
home_cost p zero home = 0
home_cost p (suc k) home = walk_cost p (suc k) home

abbrev pub relaxed_cost : Problem → ℕ → List ℕ → List (List ℕ) → ℕ
relaxed_cost p at home tours = home_cost p at home + sum_by (walk_cost p 0) tours

-- the least cost of a relaxed completion
pub record IsLeastRelaxed (p : Problem) (among : List ℕ) (at load rest cost : ℕ) : Type 0 where
  pub met : (home : List ℕ) × (tours : List (List ℕ)) × IsRelaxed p among at load rest home tours × (relaxed_cost p at home tours ≡ cost)
  pub least : (home : List ℕ) (tours : List (List ℕ)) → IsRelaxed p among at load rest home tours → cost ≤ relaxed_cost p at home tours

-- nothing carries exactly the rest
abbrev pub NoneRelaxed : Problem → List ℕ → ℕ → ℕ → ℕ → Type 0
NoneRelaxed p among at load rest = (home : List ℕ) (tours : List (List ℕ)) → IsRelaxed p among at load rest home tours → ⊥
