-- Lists of labels as one.
use Rattle.std.specs.Prelude.{◌≡◌, ℕ, ◌+◌, ◌*◌, ◌<◌, ◌≤◌, List, [], ◌++◌, Vec, length, map, slice_index_or}
use Rattle.std.specs.Global.{Global}
use Rattle.std.specs.List.{All, AllPairs, Contains}
use Rattle.vrp_routes.specs.Level.{ComesFirst}
use Rattle.vrp_routes.specs.declared.label.Label.{Label}

-- no label of the one ends where one of the other does
abbrev pub EndApart : {X : Type 0} → List (Label X) → List (Label X) → Type 0
EndApart {X} left right = (i j : ℕ) (d e : Label X) → i < length left → j < length right → (slice_index_or left i d).last ≡ (slice_index_or right j e).last → ⊥

-- the labels of both, in order where each list is and they end apart
pub record IsMerged {X : Type 0} (left right merged : List (Label X)) : Type 0 where
  pub among : All (Contains (left ++ right)) merged
  pub lefts : All (Contains merged) left
  pub rights : All (Contains merged) right
  pub ordered : EndApart left right → AllPairs ComesFirst left → AllPairs ComesFirst right → AllPairs ComesFirst merged

-- the labels of a part; none behind the last one
abbrev pub labels_at : {X : Type 0} → List (Vec (Label X) Global) → ℕ → List (Label X)
labels_at parts i = slice_index_or (map (λ part. part.items) parts) i []

-- each part is in order, and no two of them have labels that end alike
pub record CanMerge {X : Type 0} (parts : List (Vec (Label X) Global)) : Type 0 where
  pub rising : (i : ℕ) → AllPairs ComesFirst (labels_at parts i)
  pub apart : (i j : ℕ) → i < j → EndApart (labels_at parts i) (labels_at parts j)

-- the label goes on from one whose number is at least this, and below that
abbrev pub IsBetween : {X : Type 0} → ℕ → ℕ → Label X → Type 0
IsBetween from to label = (from ≤ label.parent) × (label.parent < to)

-- the labels of a list that go on from those between two numbers, in order where the list is
pub record IsCut {X : Type 0} (from to : ℕ) (labels cut : List (Label X)) : Type 0 where
  pub among : All (λ label. Contains labels label × IsBetween from to label) cut
  pub all : (label : Label X) → Contains labels label → IsBetween from to label → Contains cut label
  pub ordered : AllPairs ComesFirst cut

-- the labels of the first parts that go on from those between two numbers, in order
pub record AreMerged {X : Type 0} (parts : List (Vec (Label X) Global)) (count from to : ℕ) (merged : List (Label X)) : Type 0 where
  pub among : All (λ label. IsBetween from to label × ((i : ℕ) × (i < count) × Contains (labels_at parts i) label)) merged
  pub all : (i : ℕ) → i < count → (label : Label X) → Contains (labels_at parts i) label → IsBetween from to label → Contains merged label
  pub ordered : AllPairs ComesFirst merged

-- the labels of all parts, by ranges of so many parents, the first of which begins with this one
abbrev pub AreRanges : {X : Type 0} → List (Vec (Label X) Global) → ℕ → ℕ → List (Vec (Label X) Global) → Type 0
AreRanges {X} parts from width ranges = (i : ℕ) (d : Vec (Label X) Global) → i < length ranges
    → AreMerged parts (length parts) (from + i * width) (from + i * width + width) (slice_index_or ranges i d).items
