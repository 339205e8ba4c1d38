-- What is remembered stands among the stops: so a walk that comes to no customer twice goes on from none that is remembered.
use Rattle.std.proofs.Common.{◌≢◌, ℕ, zero, suc, Bool, List, [], ◌∷◌, refl, sym, arith}
use Rattle.std.specs.List.{All, Contains, filter}
use Rattle.std.proofs.lemmas.List.Elements.{All-contains, All-contains_itself, All-filter}
use Rattle.vrp_model.specs.Word.{stands_in}
use Rattle.vrp_model.proofs.DistinctLists.{AreDistinct, behind_head, head_differs, tail_distinct}
use Rattle.vrp_model.specs.NgWalks.{NoneRemembered, remembered}

kept_is_contained : (test : ℕ → Bool) (xs : List ℕ) (x : ℕ) → Contains (filter test xs) x → Contains xs x
kept_is_contained test xs x kept = All-contains (Contains xs) (filter test xs) x (All-filter test (Contains xs) xs (All-contains_itself xs)) kept

-- what is remembered is one of the stops
pub remembered_stop : (near : ℕ → List ℕ) (stops : List ℕ) (c : ℕ) → Contains (remembered near stops) c → Contains stops c
remembered_stop near [] c has = has
remembered_stop near (stop ∷ stops) c (zero, lt, is) = (0, omega arith, is)
remembered_stop near (stop ∷ stops) c (suc k, lt, is) =
    let kept : Contains (filter (stands_in (near stop)) (remembered near stops)) c = (k, omega (arith, lt), is) in
    behind_head stop c stops (remembered_stop near stops c (kept_is_contained (stands_in (near stop)) (remembered near stops) c kept))

pub none_twice : (near : ℕ → List ℕ) (at : ℕ) (stops : List ℕ) → AreDistinct stops → All (λ stop. stop ≢ at) stops → NoneRemembered near at stops
none_twice near at [] distinct others = tt
none_twice near at (stop ∷ stops) distinct others = (
  λ has. All-contains (λ other. other ≢ at) (stop ∷ stops) at others (remembered_stop near (stop ∷ stops) at has) refl,
  none_twice near stop stops (tail_distinct stop stops distinct) (λ k d lt same. head_differs stop stops distinct k d lt (sym same)),
)
