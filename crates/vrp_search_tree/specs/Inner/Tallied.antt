-- What a partial plan keeps beside its word: counters that are what they are called, and what they were before each symbol.
use Rattle.std.specs.Prelude.{◌≡◌, ◌⊎◌, ℕ, ◌+◌, ◌-◌, ◌*◌, ◌≤◌, ◌<◌, Bool, false, Option, List, length, slice_index_or, take}
use Rattle.std.specs.List.{All, Contains}
use Rattle.std.specs.Option.{option_map}
use Rattle.vrp_bound.specs.Bound.{IsLowerBound}
use Rattle.vrp_model.specs.Problem.{IsProblem, Problem, place_count}
use Rattle.vrp_model.specs.Word.{IsPrefix, stands_in, unserved_in}
use Rattle.vrp_search_tree.specs.Tally.{IsTally}
use Rattle.vrp_search_tree.specs.declared.tally.Tally.{Tally}

-- the greatest customer below this one that the word leaves unserved, and 0 where there is none
pub record IsGreatestBelow (p : Problem) (word : List ℕ) (customer greatest : ℕ) : Type 0 where
  pub met : (greatest ≡ 0) ⊎ (Contains (unserved_in p word) greatest × (greatest < customer))
  pub none_above : All (λ k. k < customer → k ≤ greatest) (unserved_in p word)

-- how many routes may still be opened, by the tally
abbrev pub routes_by : Problem → Tally → Option ℕ
routes_by p tally = option_map (λ trucks. trucks - tally.routes) p.trucks

-- what is paid, and the bound on what is still to pay from this place, with tables over these customers
pub record IsLowOf (p : Problem) (among : List ℕ) (at : ℕ) (tally : Tally) (low : Option ℕ) : Type 0 where
  pub bound : Option ℕ
  pub is_bound : IsLowerBound p among at tally.load tally.inbound_sum tally.rest (routes_by p tally) bound
  pub whole : low ≡ option_map (λ more. tally.cost + more) bound

-- a flag for each place: what stands at 0 is of no account
abbrev pub AreFlags : Problem → List ℕ → List Bool → Type 0
AreFlags p word flags = (k : ℕ) → 0 < k → k < place_count p → slice_index_or flags k false ≡ stands_in word k

-- the tally before each symbol
abbrev pub AreBefore : Problem → List ℕ → List Tally → Type 0
AreBefore p word before = (k : ℕ) (other : Tally) → k < length word → IsTally p (take k word) (slice_index_or before k other)

pub record AreTallied (p : Problem) (word : List ℕ) (served : List Bool) (before : List Tally) (tally : Tally) : Type 0 where
  pub problem : IsProblem p
  pub prefix : IsPrefix p word
  pub one_flag_each : length served ≡ place_count p
  pub flags : AreFlags p word served
  pub one_before_each : length before ≡ length word
  pub kept : AreBefore p word before
  pub now : IsTally p word tally

-- a list with this many places has room for the longest prefix
abbrev pub HasRoom : Problem → ℕ → Type 0
HasRoom p capacity = 2 * place_count p ≤ capacity + 2
