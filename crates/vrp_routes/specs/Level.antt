-- The labels of one length, in the order of their stops.
use Rattle.std.specs.Prelude.{◌≡◌, ◌⊎◌, ℕ, ◌<◌, Bool, true, List, [], ◌∷◌, ◌++◌, length, map, slice_index_or}
use Rattle.std.specs.List.{All, AllPairs, Contains}
use Rattle.vrp_model.specs.Order.{IsEarlier}
use Rattle.vrp_model.specs.Word.{last_symbol}
use Rattle.vrp_routes.specs.Label.{IsLabel, SettingOf}
use Rattle.vrp_routes.specs.Useful.{BeginsUseful}
use Rattle.vrp_routes.specs.declared.label.Label.{Label}

-- the stops of a label, where these are those of the labels that it may go on from
abbrev pub stops_of : {X : Type 0} → List (List ℕ) → Label X → List ℕ
stops_of before label = slice_index_or before label.parent [] ++ label.last ∷ []

abbrev pub sequences : {X : Type 0} → List (List ℕ) → List (Label X) → List (List ℕ)
sequences before labels = map (stops_of before) labels

-- each label is of its stops, of which there are this many, and they rise symbol by symbol
pub record AreLabels {X : Type 0} (s : SettingOf X) (k : ℕ) (stops : List (List ℕ)) (labels : List (Label X)) : Type 0 where
  pub long : length stops ≡ length labels
  pub each : (at : ℕ) (d : Label X) → at < length stops → IsLabel s (slice_index_or stops at []) (slice_index_or labels at d)
  pub size : All (λ xs. length xs ≡ k) stops
  pub rising : AllPairs IsEarlier stops

-- so they are, and each useful beginning with this many stops has its label
pub record IsLevel {X : Type 0} (s : SettingOf X) (k : ℕ) (stops : List (List ℕ)) (labels : List (Label X)) : Type 0 where
  pub are : AreLabels s k stops labels
  pub every : (xs : List ℕ) → length xs ≡ k → BeginsUseful s.problem s.range xs → Contains stops xs

-- one goes on from an earlier label, or from the same one by a lower stop
abbrev pub ComesFirst : {X : Type 0} → Label X → Label X → Type 0
ComesFirst label other = (label.parent < other.parent) ⊎ ((label.parent ≡ other.parent) × (label.last < other.last))

-- labels that go on from these stops, in their order, by stops that pass the test
pub record AreExtensions {X : Type 0} (s : SettingOf X) (mine : ℕ → Bool) (before : List (List ℕ)) (labels : List (Label X)) : Type 0 where
  pub each : All (λ label. IsLabel s (stops_of before label) label) labels
  pub parents : All (λ label. label.parent < length before) labels
  pub own : All (λ label. mine label.last ≡ true) labels
  pub ordered : AllPairs ComesFirst labels

-- so they are, and each useful beginning with this many stops whose last one passes the test has its label
pub record IsShare {X : Type 0} (s : SettingOf X) (k : ℕ) (mine : ℕ → Bool) (before : List (List ℕ)) (labels : List (Label X)) : Type 0 where
  pub are : AreExtensions s mine before labels
  pub every : (xs : List ℕ) → length xs ≡ k → mine (last_symbol xs) ≡ true → BeginsUseful s.problem s.range xs → Contains (sequences before labels) xs
