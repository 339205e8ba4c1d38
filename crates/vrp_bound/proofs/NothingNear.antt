-- Where nobody is near, a walk remembers its next stop alone.
use Rattle.std.proofs.Common.{◌≡◌, ℕ, zero, suc, List, [], ◌∷◌, refl, sym, subst, arith}
use Rattle.std.specs.List.{Contains, filter}
use Rattle.vrp_model.specs.Word.{stands_in}
use Rattle.vrp_model.specs.NgWalks.{NoneRemembered, remembered}
use Rattle.vrp_bound.specs.NgWalks.{nothing_near}
use Rattle.vrp_bound.specs.Walk.{NeighborsDiffer}

nothing_kept : (xs : List ℕ) → filter (stands_in []) xs ≡ []
nothing_kept [] = refl
nothing_kept (x ∷ xs) = nothing_kept xs

only_one : (stop at : ℕ) → Contains (stop ∷ []) at → stop ≡ at
only_one stop at (zero, lt, is) = is
only_one stop at (suc k, lt, is) = absurd (omega (arith, lt))

pub next_remembered : (stop at : ℕ) (stops : List ℕ) → Contains (remembered nothing_near (stop ∷ stops)) at → stop ≡ at
next_remembered stop at stops has = only_one stop at (subst (λ (xs : List ℕ). Contains (stop ∷ xs) at) (nothing_kept (remembered nothing_near stops)) has)

pub differ_from_fresh : (near : ℕ → List ℕ) (at : ℕ) (stops : List ℕ) → NoneRemembered near at stops → NeighborsDiffer at stops
differ_from_fresh near at [] fresh = tt
differ_from_fresh near at (stop ∷ stops) (first, rest) = (λ same. first (0, omega arith, sym same), differ_from_fresh near stop stops rest)

pub fresh_from_differ : (at : ℕ) (stops : List ℕ) → NeighborsDiffer at stops → NoneRemembered nothing_near at stops
fresh_from_differ at [] differ = tt
fresh_from_differ at (stop ∷ stops) (first, rest) = (λ has. first (sym (next_remembered stop at stops has)), fresh_from_differ stop stops rest)
