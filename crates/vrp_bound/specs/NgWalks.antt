-- Ng-walks, as in the ng-routes of Baldacci, Mingozzi and Roberti (2011): a walk may visit a customer again, but none that it
-- remembers.
use Rattle.std.specs.Prelude.{◌≡◌, ◌≢◌, ℕ, ◌+◌, ◌≤◌, List, []}
use Rattle.std.specs.List.{All, Contains, sum_by}
use Rattle.vrp_model.specs.Problem.{Problem, customers}
use Rattle.vrp_model.specs.Route.{load_of}
use Rattle.vrp_model.specs.Near.{NearOf, near_in}
use Rattle.vrp_model.specs.NgWalks.{NoneRemembered}
use Rattle.vrp_bound.specs.Walk.{relaxed_cost}

-- no customer is near any place, so a walk remembers only its next stop
abbrev pub nothing_near : ℕ → List ℕ
nothing_near place = []

-- a walk from a place through some of these customers
pub record IsNgWalk (p : Problem) (near : ℕ → List ℕ) (among : List ℕ) (at : ℕ) (stops : List ℕ) : Type 0 where
  pub within : All (Contains among) stops
  pub fresh : NoneRemembered near at stops

-- a closed walk of one truck
pub record IsNgTour (p : Problem) (near : ℕ → List ℕ) (among stops : List ℕ) : Type 0 where
  pub leaves : stops ≢ []
  pub walks : IsNgWalk p near among 0 stops
  pub fits : load_of p stops ≤ p.capacity

-- A relaxed completion: the open truck's walk home, if one is out at a customer, and tours.
pub record IsNgRelaxed (p : Problem) (near : ℕ → List ℕ) (among : List ℕ) (at load rest : ℕ) (home : List ℕ) (tours : List (List ℕ)) : Type 0 where
  pub walks : IsNgWalk p near among at home
  pub none_out : at ≡ 0 → home ≡ []
  pub fits : load + load_of p home ≤ p.capacity
  pub each : All (IsNgTour p near among) tours
  pub whole : load_of p home + sum_by (load_of p) tours ≡ rest

-- the least cost of a relaxed completion
pub record IsLeastNgRelaxed (p : Problem) (near : ℕ → List ℕ) (among : List ℕ) (at load rest cost : ℕ) : Type 0 where
  pub met : (home : List ℕ) × (tours : List (List ℕ)) × IsNgRelaxed p near among at load rest home tours × (relaxed_cost p at home tours ≡ cost)
  pub least : (home : List ℕ) (tours : List (List ℕ)) → IsNgRelaxed p near among at load rest home tours → cost ≤ relaxed_cost p at home tours

-- nothing carries exactly the rest
abbrev pub NoneNgRelaxed : Problem → (ℕ → List ℕ) → List ℕ → ℕ → ℕ → ℕ → Type 0
NoneNgRelaxed p near among at load rest = (home : List ℕ) (tours : List (List ℕ)) → IsNgRelaxed p near among at load rest home tours → ⊥

-- the least cost of tours that carry together what all customers demand
abbrev pub AreLeastNgTours : Problem → NearOf → ℕ → Type 0
AreLeastNgTours p near cost = IsLeastNgRelaxed p (near_in near) (customers p) 0 0 (load_of p (customers p)) cost

-- no tours carry exactly that
abbrev pub NoNgTours : Problem → NearOf → Type 0
NoNgTours p near = NoneNgRelaxed p (near_in near) (customers p) 0 0 (load_of p (customers p))
