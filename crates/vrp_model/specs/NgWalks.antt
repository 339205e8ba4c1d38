-- The memory of walks, as in the ng-routes of Baldacci, Mingozzi and Roberti (2011): each place has some near customers, and
-- a walk does not start from a customer that the walk behind it remembers.
use Rattle.std.specs.Prelude.{ℕ, List, [], ◌∷◌}
use Rattle.std.specs.List.{Contains, filter}
use Rattle.vrp_model.specs.Word.{stands_in}

-- the memory of a walk along these stops: the first stop, and the customers remembered behind it that are near it
abbrev pub remembered : (ℕ → List ℕ) → List ℕ → List ℕ
remembered near [] = []
remembered near (stop ∷ stops) = stop ∷ filter (stands_in (near stop)) (remembered near stops)

-- neither this place nor any stop is remembered by the walk behind it
abbrev pub NoneRemembered : (ℕ → List ℕ) → ℕ → List ℕ → Type 0
NoneRemembered near at [] = Unit {0}
NoneRemembered near at (stop ∷ stops) = (Contains (remembered near (stop ∷ stops)) at → ⊥) × NoneRemembered near stop stops
