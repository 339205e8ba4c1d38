-- The sequential register: it keeps the first plan, by cost and then by word, among the opening plan and the offers, and it
-- answers each offer.
use Rattle.std.specs.Prelude.{◌≡◌, ◌↔◌, ℕ, Bool, if◌then◌else◌, IsTrue, Option, Some, MatchOption, List, [], ◌∷◌, ◌++◌, map, slice_get, take}
use Rattle.std.specs.List.{All}
use Rattle.std.specs.Option.{ForSome, option_to_list}
use Rattle.vrp_model.specs.Order.{IsBefore}
use Rattle.vrp_model.specs.Route.{PricedPlan}
use Rattle.vrp_sharing.specs.declared.entry.Entry.{Entry}

-- a book, as contracts see it: its opening plan and its kept plan, if any, and all accepted offers in order
pub record BookState : Type 0 where
  pub opening : Option PricedPlan
  pub plan : Option PricedPlan
  pub entries : List Entry

-- the opening plan, if there is one, and then the offered plans
abbrev pub plans_of : Option PricedPlan → List Entry → List PricedPlan
plans_of opening entries = option_to_list opening ++ map (λ entry. entry.plan) entries

-- the first plan of a list by cost and then by word, and the earliest among equal ones: it is before all that precede it, and
-- none that follows is before it
pub record IsFirstOf (plans : List PricedPlan) (plan : PricedPlan) : Type 0 where
  pub ahead : List PricedPlan
  pub behind : List PricedPlan
  pub stands : plans ≡ ahead ++ plan ∷ behind
  pub before_all : All (IsBefore plan) ahead
  pub none_before : All (λ other. IsBefore other plan → ⊥) behind

-- the plan kept of these: the first, or nothing if there is none
abbrev pub IsKeptOf : List PricedPlan → Option PricedPlan → Type 0
IsKeptOf plans kept = MatchOption kept (plans ≡ []) (IsFirstOf plans)

-- the answer to each offer says whether its plan is before all plans then in the history
abbrev pub AreAnswers : Option PricedPlan → List Entry → Type 0
AreAnswers opening entries =
    (place : ℕ) (entry : Entry) → slice_get entries place ≡ Some entry → (IsTrue entry.kept ↔ All (IsBefore entry.plan) (plans_of opening (take place entries)))

-- a newly opened book with a plan, or without one
abbrev pub opened_with : Option PricedPlan → BookState
opened_with plan = record { opening = plan; plan = plan; entries = [] }

-- the answer says whether the offered plan is before the kept one, or none is kept
abbrev pub TellsIfBefore : PricedPlan → Option PricedPlan → Bool → Type 0
TellsIfBefore offered kept answer = IsTrue answer ↔ ForSome kept (IsBefore offered)

-- if the answer is true, the offered plan is now kept; otherwise the old one is
abbrev pub KeepsIfTrue : PricedPlan → Option PricedPlan → Option PricedPlan → Bool → Type 0
KeepsIfTrue offered old new answer = new ≡ (if answer then Some offered else old)

-- the book has one more entry at the end: the caller, the plan, and the answer
abbrev pub AddsEntry : BookState → ℕ → PricedPlan → BookState → Bool → Type 0
AddsEntry old caller offered new answer = new.entries ≡ old.entries ++ record { caller = caller; plan = offered; kept = answer } ∷ []

-- the kept plan of these plans is unique
abbrev pub KeepsJustOne : List PricedPlan → Type 0
KeepsJustOne plans = (kept other : Option PricedPlan) → IsKeptOf plans kept → IsKeptOf plans other → kept ≡ other
