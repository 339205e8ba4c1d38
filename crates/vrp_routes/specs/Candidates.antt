-- The labels of one length as they are found: which of two with the same customers and the same last one is kept.
use Rattle.std.specs.Prelude.{◌≡◌, ◌≢◌, ◌⊎◌, ◌↔◌, ℕ, ◌+◌, ◌<◌, ◌≤◌, ◌==◌, ◌&&◌, if◌then◌else◌, Bool, true, false, Option, Some, List, [], ◌∷◌, ◌++◌, length, map, slice_index_or}
use Rattle.std.specs.HashMap.{get}
use Rattle.std.specs.List.{All, AllPairs}
use Rattle.std.specs.Option.{option_map}
use Rattle.vrp_model.specs.Order.{IsEarlier}
use Rattle.vrp_model.specs.Word.{last_symbol}
use Rattle.vrp_routes.specs.Label.{SettingOf}
use Rattle.vrp_routes.specs.Level.{AreExtensions, sequences}
use Rattle.vrp_routes.specs.Share.{is_in}
use Rattle.vrp_routes.specs.Useful.{BeginsUseful}
use Rattle.vrp_routes.specs.declared.candidates.Candidates.{Candidates}
use Rattle.vrp_routes.specs.declared.candidates.KeptLabel.{KeptLabel}
use Rattle.vrp_routes.specs.declared.label.Label.{Label}

-- the set and the last stop
abbrev pub key_of : {X : Type 0} → Label X → ℕ × ℕ
key_of label = (label.set, label.last)

abbrev pub same_key : ℕ × ℕ → ℕ × ℕ → Bool
same_key key other = (key.0 == other.0) && (key.1 == other.1)

-- what is kept for a key
abbrev pub kept_in : {X : Type 0} → Candidates X → ℕ × ℕ → Option KeptLabel
kept_in found key = get same_key found.kept key

-- which label is kept for a key
abbrev pub kept_for : {X : Type 0} → Candidates X → ℕ × ℕ → Option ℕ
kept_for found key = option_map (λ kept. kept.at) (kept_in found key)

-- the key and the cost of the label at a place
abbrev pub key_at : {X : Type 0} → Candidates X → ℕ → ℕ × ℕ
key_at found at = slice_index_or (map key_of found.labels.items) at (0, 0)

abbrev pub cost_at : {X : Type 0} → Candidates X → ℕ → ℕ
cost_at found at = slice_index_or (map (λ label. label.cost) found.labels.items) at 0

-- which label is kept for the key of this one
abbrev pub kept_at : {X : Type 0} → Candidates X → ℕ → Option ℕ
kept_at found at = kept_for found (key_at found at)

-- whether a later label has taken the place of this one
abbrev pub is_superseded : {X : Type 0} → Candidates X → ℕ → Bool
is_superseded found at = slice_index_or found.superseded.items at true

-- what is kept for a key is a label with that key, and its cost; the labels that are kept are those that no other has taken the place of
pub record IsKeyed {X : Type 0} (found : Candidates X) : Type 0 where
  pub places : (key : ℕ × ℕ) (at : ℕ) → kept_for found key ≡ Some at → (at < length found.labels.items) × (key_at found at ≡ key)
  pub costs : (key : ℕ × ℕ) (kept : KeptLabel) → kept_in found key ≡ Some kept → kept.cost ≡ cost_at found kept.at
  pub one_flag_each : length found.superseded.items ≡ length found.labels.items
  pub flags : (at : ℕ) → at < length found.labels.items → (is_superseded found at ≡ false) ↔ (kept_at found at ≡ Some at)

-- a label was offered: refused where one is kept for its key that costs no more, and else kept in its stead
pub record IsRefused {X : Type 0} (old : Candidates X) (label : Label X) (new : Candidates X) : Type 0 where
  pub same : new ≡ old
  pub at : ℕ
  pub kept : kept_for old (key_of label) ≡ Some at
  pub no_costlier : cost_at old at ≤ label.cost

pub record IsTaken {X : Type 0} (old : Candidates X) (label : Label X) (new : Candidates X) : Type 0 where
  pub share : new.share ≡ old.share
  pub longer : new.labels.items ≡ old.labels.items ++ label ∷ []
  pub cheaper : (at : ℕ) → kept_for old (key_of label) ≡ Some at → label.cost < cost_at old at
  pub kept : (key : ℕ × ℕ) → kept_in new key ≡ (if same_key (key_of label) key then Some (record { at = length old.labels.items; cost = label.cost }) else kept_in old key)
  pub one_flag_more : length new.superseded.items ≡ length old.superseded.items + 1
  pub first_flags : (at : ℕ) → at < length old.superseded.items → (is_superseded new at ≡ false) ↔ ((is_superseded old at ≡ false) × (kept_for old (key_of label) ≢ Some at))
  pub last_flag : is_superseded new (length old.superseded.items) ≡ false

abbrev pub IsOffered : {X : Type 0} → Candidates X → Label X → Candidates X → Type 0
IsOffered old label new = IsRefused old label new ⊎ IsTaken old label new

-- these stops are those of a label that is kept
pub record IsKept {X : Type 0} (stops : List (List ℕ)) (found : Candidates X) (xs : List ℕ) : Type 0 where
  pub at : ℕ
  pub within : at < length stops
  pub is : slice_index_or stops at [] ≡ xs
  pub kept : kept_at found at ≡ Some at

-- the label of each useful beginning with this many stops is kept, where its last one is in the share
pub record IsGrown {X : Type 0} (s : SettingOf X) (k : ℕ) (before : List (List ℕ)) (found : Candidates X) : Type 0 where
  pub are : AreExtensions s (is_in found.share) before found.labels.items
  pub every : (xs : List ℕ) → length xs ≡ k → is_in found.share (last_symbol xs) ≡ true → BeginsUseful s.problem s.range xs → IsKept (sequences before found.labels.items) found xs

-- an extension comes before the one of this parent by this stop
abbrev pub IsBefore : ℕ → ℕ → ℕ → ℕ → Type 0
IsBefore parent stop i c = (parent < i) ⊎ ((parent ≡ i) × (stop < c))

-- the same of the extensions that come before that one, where these are the stops of their parents
pub record HasExtensions {X : Type 0} (s : SettingOf X) (k : ℕ) (stops : List (List ℕ)) (parent stop : ℕ) (found : Candidates X) : Type 0 where
  pub size : All (λ xs. length xs ≡ k) stops
  pub rising : AllPairs IsEarlier stops
  pub are : AreExtensions s (is_in found.share) stops found.labels.items
  pub before : All (λ label. IsBefore label.parent label.last parent stop) found.labels.items
  pub every : (i c : ℕ) → IsBefore i c parent stop → i < length stops → is_in found.share c ≡ true → BeginsUseful s.problem s.range (slice_index_or stops i [] ++ c ∷ [])
      → IsKept (sequences stops found.labels.items) found (slice_index_or stops i [] ++ c ∷ [])
