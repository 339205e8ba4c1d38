-- The customers served by the routes so far, and the faults of routes.
use Rattle.std.specs.Prelude.{◌≡◌, ◌≢◌, ℕ, ◌<◌, Bool, false, List, ◌∷◌, ◌++◌, length, slice_index_or}
use Rattle.std.specs.List.{AllPairs, Contains, concat}
use Rattle.vrp_model.specs.Problem.{Problem, place_count}
use Rattle.vrp_model.specs.Route.{OverloadsNoTruck}
use Rattle.vrp_model.specs.Word.{stands_in}
use Rattle.vrp_plan_text.specs.Solution.{AreTooMany, GivenRoute, IsNotServed, IsOverloaded, IsServedTwice}
use Rattle.vrp_plan_text.specs.declared.reading.error.SolutionError.{SolutionError}
use Rattle.vrp_plan_text.specs.declared.reading.error.SolutionError.TheVariants as error

abbrev pub AreDifferent : List ℕ → Type 0
AreDifferent stops = AllPairs (λ a b. a ≢ b) stops

-- a flag for each place says whether it is among these stops
abbrev pub Marks : List Bool → List ℕ → Type 0
Marks flags stops = (k : ℕ) → k < length flags → slice_index_or flags k false ≡ stands_in stops k

-- the first stop that is among the passed ones, or occurs earlier among these
pub record StandsTwice (passed stops : List ℕ) (stop : ℕ) : Type 0 where
  pub before : List ℕ
  pub behind : List ℕ
  pub stands : stops ≡ before ++ stop ∷ behind
  pub once : AreDifferent (passed ++ before)
  pub again : Contains (passed ++ before) stop

-- these routes have no fault, and the flags mark the customers they serve
pub record AreServed (p : Problem) (flags : List Bool) (routes : List (List ℕ)) : Type 0 where
  pub places : length flags ≡ place_count p
  pub marks : Marks flags (concat routes)
  pub once : AreDifferent (concat routes)
  pub fits : OverloadsNoTruck p routes

-- routes are refused for a reason that holds
abbrev pub AreFaulty : Problem → List GivenRoute → SolutionError → Type 0
AreFaulty p routes (error.UnknownLine line) = ⊥
AreFaulty p routes (error.BadNumber line) = ⊥
AreFaulty p routes (error.RepeatedCost line) = ⊥
AreFaulty p routes (error.NotACustomer route customer) = ⊥
AreFaulty p routes (error.ServedTwice route customer) = IsServedTwice p routes route customer
AreFaulty p routes (error.NotServed customer) = IsNotServed p routes customer
AreFaulty p routes (error.Overloaded route load capacity) = IsOverloaded p routes route load capacity
AreFaulty p routes (error.TooManyRoutes count) = AreTooMany p routes count
AreFaulty p routes error.OutOfMemory = ⊥
