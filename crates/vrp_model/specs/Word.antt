-- A plan as one list, its word: its routes by rising first customer, each followed by 0, the depot. A prefix is a possible
-- beginning of a word: a partial plan.
use Rattle.std.specs.Prelude.{◌≡◌, ◌≢◌, ◌⊎◌, ℕ, ◌+◌, ◌-◌, ◌≤◌, ◌<◌, ◌==◌, Bool, not, List, [], ◌∷◌, ◌++◌, count_by, length, map, slice_index, slice_index_or, take}
use Rattle.std.specs.List.{All, AllPairs, Contains, filter, flat_map, list_any, slice_split}
use Rattle.std.specs.List.Sorted.{IsStrictlyIncreasing}
use Rattle.vrp_model.specs.Problem.{HasTrucks, IsSymmetric, Problem, customers, demand_of}
use Rattle.vrp_model.specs.Route.{PricedPlan, load_of, cost_along}

abbrev pub word_of : List (List ℕ) → List ℕ
word_of routes = flat_map (λ r. r ++ 0 ∷ []) routes

-- the routes between the zeros, the open route last if there is one
abbrev pub routes_of : List ℕ → List (List ℕ)
routes_of word = filter (λ r. not (length r == 0)) (slice_split (λ k. k == 0) word)

-- the stops of each closed route: those before each 0, back to the previous 0
abbrev pub closed_routes : List ℕ → List (List ℕ)
closed_routes word = take (count_by (λ k. k == 0) word) (slice_split (λ k. k == 0) word)

-- the customers, in order
abbrev pub served_in : List ℕ → List ℕ
served_in word = filter (λ k. not (k == 0)) word

-- the first customer of each route
abbrev pub first_stops : List (List ℕ) → List ℕ
first_stops routes = map (λ r. slice_index r 0) routes

abbrev pub last_symbol : List ℕ → ℕ
last_symbol word = slice_index word (length word - 1)

-- a route's first customer is not above its last: the direction that starts at the lower end
abbrev pub RunsForward : List ℕ → Type 0
RunsForward route = slice_index route 0 ≤ last_symbol route

-- if the problem is symmetric, each of these routes runs forward
abbrev pub AllRunForward : Problem → List (List ℕ) → Type 0
AllRunForward p routes = IsSymmetric p → All RunsForward routes

-- the last symbol is a customer, so its route is not closed yet
abbrev pub IsOpen : List ℕ → Type 0
IsOpen word = 0 < last_symbol word

-- each 0 follows a customer, so none is at the front or behind another 0; this symbol precedes the list
abbrev pub HasStops : ℕ → List ℕ → Type 0
HasStops before [] = Unit {0}
HasStops before (symbol ∷ word) = (symbol ≡ 0 → 0 < before) × HasStops symbol word

pub record IsPrefix (p : Problem) (word : List ℕ) : Type 0 where
  pub known : All (Contains (customers p)) (served_in word)
  pub once : AllPairs (λ a b. a ≢ b) (served_in word)
  -- no route is empty
  pub stops : HasStops 0 word
  pub fits : All (λ r. load_of p r ≤ p.capacity) (routes_of word)
  pub rising : IsStrictlyIncreasing (first_stops (routes_of word))
  -- an open route needs a truck too
  pub few : HasTrucks p (length (routes_of word))
  pub forward : AllRunForward p (closed_routes word)

-- a prefix that has every customer and no open route
pub record IsLawfulWord (p : Problem) (word : List ℕ) : Type 0 where
  pub prefix : IsPrefix p word
  pub every : All (Contains (served_in word)) (customers p)
  pub closed : last_symbol word ≡ 0

abbrev pub HasLawfulWord : Problem → PricedPlan → Type 0
HasLawfulWord p plan = IsLawfulWord p (word_of plan.routes)

-- the cost along the word, from the depot
abbrev pub word_cost : Problem → List ℕ → ℕ
word_cost p word = cost_along p 0 word

abbrev pub BeginsWith : List ℕ → List ℕ → Type 0
BeginsWith word prefix = (rest : List ℕ) × (word ≡ prefix ++ rest)

-- no plan under the prefix costs less
abbrev pub NoneCheaperUnder : Problem → List ℕ → ℕ → Type 0
NoneCheaperUnder p prefix cost = (word : List ℕ) → IsLawfulWord p word → BeginsWith word prefix → cost ≤ word_cost p word

-- the tree of a prefix has at least this many prefixes; the tree has all that begin with it, itself included
abbrev pub TreeHasAtLeast : Problem → List ℕ → ℕ → Type 0
TreeHasAtLeast p prefix n =
    (prefixes : List (List ℕ)) × AllPairs (λ a b. a ≢ b) prefixes × All (λ w. IsPrefix p w × BeginsWith w prefix) prefixes × (n ≤ length prefixes)

-- the tree of a prefix: all prefixes that begin with it, itself included, each once
pub record IsTree (p : Problem) (prefix : List ℕ) (prefixes : List (List ℕ)) : Type 0 where
  pub once : AllPairs (λ a b. a ≢ b) prefixes
  pub each : All (λ w. IsPrefix p w × BeginsWith w prefix) prefixes
  pub every : (w : List ℕ) → IsPrefix p w → BeginsWith w prefix → Contains prefixes w

-- the tree has exactly this many prefixes
abbrev pub TreeHas : Problem → List ℕ → ℕ → Type 0
TreeHas p prefix n = (prefixes : List (List ℕ)) × IsTree p prefix prefixes × (length prefixes ≡ n)

-- the last route, or nothing if there is none
abbrev pub last_route : List ℕ → List ℕ
last_route word = slice_index_or (routes_of word) (length (routes_of word) - 1) []

-- whether a symbol is in the word
abbrev pub stands_in : List ℕ → ℕ → Bool
stands_in word k = list_any (λ symbol. symbol == k) word

-- the customers that aren't in the word, by rising place
abbrev pub unserved_in : Problem → List ℕ → List ℕ
unserved_in p word = filter (λ k. not (stands_in word k)) (customers p)

-- A symbol makes a child of a prefix in three cases: the depot, if a route is open that may be closed in its direction; an
-- unserved customer, if a route is open that can still carry its demand; an unserved customer, if no route is open, there is
-- a truck for one more, and the customer is above the first one of the last route, or there is no route yet.
abbrev pub MakesChild : Problem → List ℕ → ℕ → Type 0
MakesChild p word k =
    ((k ≡ 0) × IsOpen word × (IsSymmetric p → RunsForward (last_route word)))
    ⊎ (Contains (unserved_in p word) k × IsOpen word × (load_of p (last_route word) + demand_of p k ≤ p.capacity))
    ⊎ (Contains (unserved_in p word) k × (last_symbol word ≡ 0) × (slice_index (last_route word) 0 < k) × HasTrucks p (length (routes_of word) + 1))

-- No plan is under the prefix of a symmetric problem: every unserved customer is below the first customer of the last route,
-- so no other route can be opened, and the last one would end with one of them, or ends below its first.
pub record HasNoCompletion (p : Problem) (prefix : List ℕ) : Type 0 where
  pub symmetric : IsSymmetric p
  pub below : All (λ k. k < slice_index (last_route prefix) 0) (unserved_in p prefix)
  pub ends : (0 < length (unserved_in p prefix)) ⊎ (IsOpen prefix × (last_symbol prefix < slice_index (last_route prefix) 0))
