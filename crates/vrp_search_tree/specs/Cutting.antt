-- A cutting: prefixes among which all feasible words are shared out.
use Rattle.std.specs.Prelude.{◌≡◌, ◌⊎◌, ℕ, ◌+◌, ◌≤◌, ◌<◌, ◌==◌, if◌then◌else◌, Bool, true, false, List, [], ◌∷◌, ◌++◌, count_by, drop, length, slice_index_or, take}
use Rattle.std.specs.List.{All, Contains}
use Rattle.vrp_model.specs.Problem.{Problem}
use Rattle.vrp_model.specs.Word.{BeginsWith, IsPrefix, IsLawfulWord}
use Rattle.vrp_search_tree.specs.Child.{AreChildren, NoChildFrom}

-- whether the word begins with the prefix
abbrev pub begins_with : List ℕ → List ℕ → Bool
begins_with word [] = true
begins_with [] (k ∷ prefix) = false
begins_with (j ∷ word) (k ∷ prefix) = if j == k then begins_with word prefix else false

-- each feasible word begins with exactly one of the prefixes. There may be prefixes that none begins with
pub record IsCutting (p : Problem) (prefixes : List (List ℕ)) : Type 0 where
  pub each : All (IsPrefix p) prefixes
  pub one : (word : List ℕ) → IsLawfulWord p word → count_by (begins_with word) prefixes ≡ 1

-- the word begins with one of these prefixes
abbrev pub BeginsAmong : List (List ℕ) → List ℕ → Type 0
BeginsAmong prefixes word = (prefix : List ℕ) × Contains prefixes prefix × BeginsWith word prefix

abbrev pub HasNoChild : Problem → List ℕ → Type 0
HasNoChild p prefix = NoChildFrom p prefix 0

-- there are this many, or none has a child
abbrev pub AreEnough : Problem → ℕ → List (List ℕ) → Type 0
AreEnough p pieces prefixes = (pieces ≤ length prefixes) ⊎ All (HasNoChild p) prefixes

-- the i-th prefix is replaced by its children, by rising symbol, where it has any: then the answer is true
abbrev pub IsRefined : Problem → ℕ → List (List ℕ) → Bool → List (List ℕ) → Type 0
IsRefined p i old false new = HasNoChild p (slice_index_or old i []) × (new ≡ old)
IsRefined p i old true new =
    (children : List (List ℕ)) × AreChildren p (slice_index_or old i []) children × (0 < length children) × (new ≡ take i old ++ children ++ drop (i + 1) old)

-- a word with its place in a list
pub record NumberedWord : Type 0 where
  pub number : ℕ
  pub word : List ℕ

-- the number of each is its place
abbrev pub AreNumbered : List NumberedWord → Type 0
AreNumbered pieces = (k : ℕ) (other : NumberedWord) → k < length pieces → (slice_index_or pieces k other).number ≡ k
