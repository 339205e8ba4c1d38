-- The rule of the cost word: an invariant between any two steps of any threads.
use Rattle.std.specs.Prelude.{◌≡◌, ◌≢◌, ℕ, ◌<◌, List, [], ◌∷◌, true}
use Rattle.std.specs.List.{All, AllPairs}
use Rattle.atomic_table.specs.Table.{State}
use mathlib.Core.Option.{some}
use lib.ListN.{get_elem?}
use Rattle.vrp_sharing.specs.Costs.{IsKnown, least_of}
use Rattle.vrp_sharing.specs.declared.view.Offer.{Offer}
use Rattle.vrp_sharing.specs.declared.view.View.{View}

-- the view at an index: its callers' knowledge is true, and each number is at one index, once; the first seat has made all
-- callers
pub record Fits (opening count : ℕ) (history : List Offer) (views : List View) (place : ℕ → ℕ) (at : ℕ) (v : View) : Type 0 where
  pub known : All (IsKnown opening history) v.callers
  pub placed : All (λ k. place k.number ≡ at) v.callers
  pub apart : AllPairs (λ a b. a.number ≢ b.number) v.callers
  pub below : All (λ k. k.number < count) v.callers
  pub first : v.makes ≡ true → at ≡ 0
  pub opens : v.makes ≡ true → v.opening ≡ opening
  pub made : v.makes ≡ true → All (λ o. o.caller < v.next) history
  pub numbers : v.makes ≡ true → (j : ℕ) (w : View) → get_elem? views j ≡ some w → All (λ k. k.number < v.next) w.callers

-- there is one history, with offers of this many callers: the word is its least cost, and all views are parts of it
pub record IsCostState (key : ℕ × ℕ) (s : State ℕ View) : Type 0 where
  pub history : List Offer
  pub place : ℕ → ℕ
  pub word : s.words ≡ least_of key.0 history ∷ []
  pub below : All (λ o. o.caller < key.1) history
  pub fits : (at : ℕ) (v : View) → get_elem? s.views at ≡ some v → Fits key.0 key.1 history s.views place at v
