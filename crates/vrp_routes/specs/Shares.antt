-- The candidates of some shares of the customers, one for each worker, and the labels that are kept of them.
use Rattle.std.specs.Prelude.{◌≡◌, ℕ, ◌+◌, ◌<◌, Some, List, Vec, length, slice_index_or}
use Rattle.std.specs.List.{All, AllPairs, Contains}
use Rattle.std.specs.Global.{Global}
use Rattle.vrp_routes.specs.Candidates.{HasExtensions, IsKeyed, kept_at}
use Rattle.vrp_routes.specs.Label.{SettingOf}
use Rattle.vrp_routes.specs.Level.{ComesFirst, IsLevel, IsShare}
use Rattle.vrp_routes.specs.Share.{has_rest}
use Rattle.vrp_routes.specs.declared.candidates.Candidates.{Candidates}
use Rattle.vrp_routes.specs.declared.label.Label.{Label}

-- candidates of the shares from the first one on, of so many
pub record AreShares {X : Type 0} (total first : ℕ) (all : List (Candidates X)) : Type 0 where
  pub keyed : (i : ℕ) (d : Candidates X) → i < length all → IsKeyed (slice_index_or all i d)
  pub shares : (i : ℕ) (d : Candidates X) → i < length all → (slice_index_or all i d).share.shares ≡ total
  pub rests : (i : ℕ) (d : Candidates X) → i < length all → (slice_index_or all i d).share.rest ≡ first + i

-- what is known of each worker's before it goes on
abbrev pub AreKeyed : {X : Type 0} → List (Candidates X) → Type 0
AreKeyed {X} all = (i : ℕ) (found : Candidates X) → i < length all → found ≡ slice_index_or all i found → IsKeyed found

-- the labels from this one to that were extended
pub record IsFurther {X : Type 0} (s : SettingOf X) (labels : List (Label X)) (from to : ℕ) (old new : Candidates X) : Type 0 where
  pub share : new.share ≡ old.share
  pub keyed : IsKeyed new
  pub extensions : (k : ℕ) (stops : List (List ℕ)) → IsLevel s k stops labels → HasExtensions s k stops from 0 old → HasExtensions s k stops to 0 new

-- so each worker did
pub record AreFurther {X : Type 0} (s : SettingOf X) (labels : List (Label X)) (from to : ℕ) (old new : List (Candidates X)) : Type 0 where
  pub count : length new ≡ length old
  pub each : (i : ℕ) (d e : Candidates X) → i < length old → IsFurther s labels from to (slice_index_or old i d) (slice_index_or new i e)

-- what a worker keeps of what it found, in order
pub record IsPart {X : Type 0} (found : Candidates X) (labels : Vec (Label X) Global) : Type 0 where
  pub among : All (Contains found.labels.items) labels.items
  pub all : (at : ℕ) (d : Label X) → at < length found.labels.items → kept_at found at ≡ Some at → Contains labels.items (slice_index_or found.labels.items at d)
  pub ordered : AllPairs ComesFirst found.labels.items → AllPairs ComesFirst labels.items

-- each has the extensions of the labels before this one
abbrev pub AreFinding : {X : Type 0} → SettingOf X → ℕ → List (List ℕ) → ℕ → List (Candidates X) → Type 0
AreFinding {X} s k stops parent shares = (i : ℕ) (d : Candidates X) → i < length shares → HasExtensions s k stops parent 0 (slice_index_or shares i d)

-- these are the labels of the shares from the first one on, of so many
abbrev pub AreParts : {X : Type 0} → SettingOf X → ℕ → List (List ℕ) → ℕ → ℕ → List (Vec (Label X) Global) → Type 0
AreParts {X} s k before shares first parts = (i : ℕ) (d : Vec (Label X) Global) → i < length parts → IsShare s k (has_rest shares (first + i)) before (slice_index_or parts i d).items
