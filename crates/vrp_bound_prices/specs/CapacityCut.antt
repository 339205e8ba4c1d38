-- Cuts: a set of customers whose border is crossed by the trucks that serve them.
use Rattle.std.specs.Prelude.{◌≢◌, ℕ, ◌+◌, ◌-◌, ◌*◌, Bool, false, not, if◌then◌else◌, List, [], ◌∷◌, length, slice_index_or}
use Rattle.std.specs.List.{All, AllPairs, Contains, filter, range_with_len, sum_by}
use Rattle.vrp_model.specs.Problem.{Problem, customers}
use Rattle.vrp_model.specs.Route.{load_of}
use Rattle.vrp_model.specs.Word.{stands_in}
use Rattle.vrp_bound.specs.Capacity.{IsTrucks}

-- a set of customers, the trucks that carry their demand, and the amount taken off each arc across its border
pub record CapacityCut : Type 0 where
  pub inside : List ℕ
  pub trucks : ℕ
  pub cut_price : ℕ

-- the customers marked in a list with a mark for each place; the depot's mark is ignored
abbrev pub marked : List Bool → List ℕ
marked marks = filter (λ place. slice_index_or marks place false) (range_with_len 1 (length marks - 1))

-- the cut of the marked customers
abbrev pub cut_of : List Bool → ℕ → ℕ → CapacityCut
cut_of marks trucks cut_price = record { inside = marked marks; trucks = trucks; cut_price = cut_price }

-- customers of the problem, each once, and the least number of trucks that carry their demand
pub record IsCut (p : Problem) (cut : CapacityCut) : Type 0 where
  pub known : All (Contains (customers p)) cut.inside
  pub once : AllPairs (λ a b. a ≢ b) cut.inside
  pub carry : IsTrucks p.capacity (load_of p cut.inside) cut.trucks

-- an arc crosses the border of some places if exactly one of its ends is among them
abbrev pub crosses : List ℕ → ℕ → ℕ → Bool
crosses inside from to = if stands_in inside from then not (stands_in inside to) else stands_in inside to

-- how often the border is crossed from a place through the stops, up to the last one
abbrev pub crossings : List ℕ → ℕ → List ℕ → ℕ
crossings inside at [] = 0
crossings inside at (stop ∷ stops) = (if crosses inside at stop then 1 else 0) + crossings inside stop stops

-- the sum of the prices of the cuts that an arc crosses
abbrev pub cut_prices_of : List CapacityCut → ℕ → ℕ → ℕ
cut_prices_of cuts from to = sum_by (λ cut. if crosses cut.inside from to then cut.cut_price else 0) cuts

-- the sum of all cut prices from a place through the stops, up to the last one
abbrev pub cut_prices_along : List CapacityCut → ℕ → List ℕ → ℕ
cut_prices_along cuts at stops = sum_by (λ cut. cut.cut_price * crossings cut.inside at stops) cuts
