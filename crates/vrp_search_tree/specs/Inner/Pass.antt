-- What becomes of a prefix, and of a list of prefixes, in a pass over a cutting.
use Rattle.std.specs.Prelude.{◌≡◌, ◌⊎◌, ℕ, ◌+◌, ◌-◌, ◌≤◌, ◌<◌, Bool, true, false, List, [], ◌∷◌, ◌++◌, length}
use Rattle.std.specs.List.{All}
use Rattle.vrp_model.specs.Problem.{Problem}
use Rattle.vrp_model.specs.declared.limits.TheConstants.{MAX_NODES}
use Rattle.vrp_search_tree.specs.Child.{AreChildren}
use Rattle.vrp_search_tree.specs.Cutting.{BeginsAmong, HasNoChild, IsCutting}

-- a prefix's children stand behind a list
pub record AreAdded (p : Problem) (prefix : List ℕ) (old new : List (List ℕ)) : Type 0 where
  pub children : List (List ℕ)
  pub are : AreChildren p prefix children
  pub few : length children ≤ MAX_NODES
  pub behind : new ≡ old ++ children

-- what stands for a prefix: its children, where it is refined, and else itself
abbrev pub StandsFor : Problem → List ℕ → Bool → List (List ℕ) → Type 0
StandsFor p prefix true prefixes = AreChildren p prefix prefixes × (0 < length prefixes)
StandsFor p prefix false prefixes = prefixes ≡ prefix ∷ []

-- what stands for a prefix is put behind a list
pub record IsStep (p : Problem) (prefix : List ℕ) (asked : Bool) (old : List (List ℕ)) (refined : Bool) (new : List (List ℕ)) : Type 0 where
  pub prefixes : List (List ℕ)
  pub stand : StandsFor p prefix refined prefixes
  pub few : length prefixes ≤ MAX_NODES
  pub behind : new ≡ old ++ prefixes
  -- it is refined where that is asked for and it has a child
  pub only : asked ≡ false → refined ≡ false
  pub else_none : asked ≡ true → refined ≡ false → HasNoChild p prefix

-- each prefix that has a child has at least this many symbols
abbrev pub AreDeep : Problem → ℕ → List (List ℕ) → Type 0
AreDeep p depth prefixes = All (λ prefix. HasNoChild p prefix ⊎ (depth ≤ length prefix)) prefixes

-- how far a pass has come: what stands for the prefixes that it has seen, and those that are ahead
pub record IsPass (p : Problem) (pieces : ℕ) (old done ahead : List (List ℕ)) (refined : Bool) : Type 0 where
  pub cutting : IsCutting p (done ++ ahead)
  pub few : length done + length ahead ≤ pieces + (MAX_NODES - 1)
  pub begins : All (BeginsAmong old) done
  -- with too few still, each prefix that had a child has been refined
  pub deeper : length done + length ahead < pieces → (depth : ℕ) → AreDeep p depth old → AreDeep p (depth + 1) done
  -- nothing is refined: as many as there were, and with too few still, none of those seen has a child
  pub as_many : refined ≡ false → length done + length ahead ≡ length old
  pub childless : refined ≡ false → length done + length ahead < pieces → All (HasNoChild p) done
