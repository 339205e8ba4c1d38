-- Each step keeps the rule of the pile.
use Rattle.std.proofs.Common.{◌≡◌, ◌≢◌, ◌∙◌, ℕ, zero, suc, ◌+◌, ◌-◌, ◌<◌, ◌≤◌, List, [], ◌∷◌, ◌++◌, length, set, sym, refl, ap, subst, ⊎_elim, arith}
use Rattle.std.specs.List.{Contains, flat_map, sum_by}
use Rattle.std.proofs.lemmas.List.{append_assoc}
use Rattle.std.proofs.lemmas.List.Concat.{flat_map-cons}
use Rattle.std.proofs.lemmas.List.Elements.{All-cons, All-head, All-nil}
use Rattle.std.proofs.lemmas.List.Sums.{sum_by-append, sum_by-cons}
use Rattle.std.specs.Prelude.{MatchOption, None, Option, Some}
use mathlib.Core.Option.{some, some-ne-none, some-injective}
use lib.ListN.{get_elem?}
use Rattle.crossbeam_deque.specs.Tasks.{Pushes, Takes, Finds, FindsFew, Forks, Merges, Learns}
use Rattle.crossbeam_deque.proofs.Lists.{at_set, at_snoc, set_else}
use Rattle.vrp_search_tree.specs.Cutting.{NumberedWord}
use Rattle.vrp_sharing.specs.declared.draws.Draws.{Draws}
use Rattle.vrp_sharing.specs.declared.limits.TheConstants.{MAX_DRAWERS}
use Rattle.vrp_sharing.specs.Inner.Piled.{Draw, IsPiled, Knows, drawer, draws}
use Rattle.vrp_sharing.specs.Pile.{AreShared, DrawerState, IsDrawn, IsOldest, PileId}
use Rattle.vrp_sharing.proofs.SamePieces.{found, mark, marks_itself, ones, same_pieces}

-- a drawer that has no part
abbrev spent : Draws
spent = draws 0 [] []

-- how many parts a drawer has, and what it drew weighs
abbrev parts_of : Draws → ℕ
parts_of v = v.parts

abbrev weighs : (NumberedWord → ℕ) → Draws → ℕ
weighs weight v = sum_by weight v.drawn

-- all that these drew
abbrev drawn_by_all : List Draws → List NumberedWord
drawn_by_all views = flat_map (λ v. v.drawn) views

weighs_all : (weight : NumberedWord → ℕ) (views : List Draws) → sum_by weight (drawn_by_all views) ≡ sum_by (weighs weight) views
weighs_all weight [] = refl
weighs_all weight (x ∷ xs) =
    let here : sum_by weight (drawn_by_all (x ∷ xs)) ≡ sum_by weight (x.drawn ++ drawn_by_all xs) = ap (sum_by weight) (flat_map-cons (λ (v : Draws). v.drawn) x xs) in
    omega (arith, here, sum_by-append weight x.drawn (drawn_by_all xs), weighs_all weight xs, sum_by-cons (weighs weight) x xs)

-- who has no part has drawn nothing
none_drawn : (views : List Draws) → sum_by parts_of views ≡ 0 → ((j : ℕ) (u : Draws) → get_elem? views j ≡ some u → u.parts ≡ 0 → u.drawn ≡ []) → drawn_by_all views ≡ []
none_drawn [] no_part idle = refl
none_drawn (x ∷ xs) no_part idle =
    let sum = sum_by-cons parts_of x xs in
    let here : x.drawn ≡ [] = idle 0 x refl (omega (arith, no_part, sum)) in
    flat_map-cons (λ (v : Draws). v.drawn) x xs ∙ ap (λ l. l ++ drawn_by_all xs) here ∙ none_drawn xs (omega (arith, no_part, sum)) (λ j u e. idle (suc j) u e)

sum_set : (f : Draws → ℕ) (views : List Draws) (port : ℕ) (v w : Draws) → get_elem? views port ≡ some v → sum_by f (set views port w) + f v ≡ sum_by f views + f w
sum_set f [] port v w at = absurd (some-ne-none v (sym at))
sum_set f (x ∷ xs) zero v w at =
    let same : f x ≡ f v = ap f (some-injective x v at) in
    omega (arith, same, sum_by-cons f x xs, sum_by-cons f w xs)
sum_set f (x ∷ xs) (suc k) v w at = omega (arith, sum_set f xs k v w at, sum_by-cons f x xs, sum_by-cons f x (set xs k w))

-- one of all is no more than their sum
one_of : (f : Draws → ℕ) (views : List Draws) (port : ℕ) (v : Draws) → get_elem? views port ≡ some v → f v ≤ sum_by f views
one_of f [] port v at = absurd (some-ne-none v (sym at))
one_of f (x ∷ xs) zero v at =
    let same : f x ≡ f v = ap f (some-injective x v at) in
    omega (arith, same, sum_by-cons f x xs)
one_of f (x ∷ xs) (suc k) v at = omega (arith, one_of f xs k v at, sum_by-cons f x xs)

set_there : (views : List Draws) (port : ℕ) (v w : Draws) → get_elem? views port ≡ some v → get_elem? (set views port w) port ≡ some w
set_there [] port v w at = absurd (some-ne-none v (sym at))
set_there (x ∷ xs) zero v w at = refl
set_there (x ∷ xs) (suc k) v w at = set_there xs k v w at

-- where another has parts, this one has not all
others : (views : List Draws) (port other : ℕ) (v u : Draws) → other ≢ port → get_elem? views port ≡ some v → get_elem? views other ≡ some u → v.parts + u.parts ≤ sum_by parts_of views
others views port other v u apart at at' =
    omega (arith, sum_set parts_of views port v spent at, one_of parts_of (set views port spent) other u (set_else views port other spent apart ∙ at'))

-- one view is changed
known_set : (put put' : List NumberedWord) (views : List Draws) (port : ℕ) (w : Draws) → Knows put' w
    → ((j : ℕ) (u : Draws) → j ≢ port → get_elem? views j ≡ some u → Knows put' u) → (j : ℕ) (u : Draws) → get_elem? (set views port w) j ≡ some u → Knows put' u
known_set put put' views port w mine theirs j u e =
    ⊎_elim (λ (x : (j ≡ port) × (w ≡ u)). subst (Knows put') x.1 mine) (λ (x : (j ≢ port) × (get_elem? views j ≡ some u)). theirs j u x.0 x.1) (at_set views port j w u e)

-- what all but one drew
abbrev drawn_by_others : List Draws → ℕ → List NumberedWord
drawn_by_others views port = drawn_by_all (set views port spent)

alone : (left : List NumberedWord) (views : List Draws) (port : ℕ) (v : Draws) → IsPiled left views → get_elem? views port ≡ some v → v.parts ≡ MAX_DRAWERS → drawn_by_others views port ≡ []
alone left views port v b at all =
    let known_rest = known_set b.put b.put views port spent (record { put = λ some_part. absurd (omega (arith, some_part)); drawn = λ _. refl }) (λ j u apart e. b.known j u e) in
    none_drawn (set views port spent) (omega (arith, sum_set parts_of views port v spent at, b.parts, all)) (λ j u e. (known_rest j u e).drawn)

-- the drawer and the others drew all that is gone
all_gone : (left : List NumberedWord) (views : List Draws) (port : ℕ) (v : Draws) (b : IsPiled left views) → get_elem? views port ≡ some v → AreShared v.drawn (drawn_by_others views port) b.gone
all_gone left views port v b at =
    same_pieces b.gone (v.drawn ++ drawn_by_others views port) (λ weight.
    let stands : sum_by weight b.put ≡ sum_by weight (b.gone ++ left) = ap (sum_by weight) b.stands in
    omega (arith, stands, sum_by-append weight b.gone left, b.weights weight, sum_set (weighs weight) views port v spent at, weighs_all weight (set views port spent), sum_by-append weight v.drawn (drawn_by_others views port)))

pub begins : IsPiled [] (draws MAX_DRAWERS [] [] ∷ [])
begins = record {
  put = [];
  gone = [];
  stands = refl;
  parts = refl;
  weights = λ weight. refl;
  known = λ port v at. known_one port v at;
}
  where
    known_one : (port : ℕ) (v : Draws) → get_elem? (draws MAX_DRAWERS [] [] ∷ []) port ≡ some v → Knows [] v
    known_one zero v at = subst (Knows []) (some-injective (draws MAX_DRAWERS [] []) v at) (record { put = λ some_part. refl; drawn = λ no_part. refl })
    known_one (suc port) v at = absurd (some-ne-none v (sym at))

pub puts : (port : ℕ) (v : Draws) (xs : List NumberedWord) → v.parts ≡ MAX_DRAWERS → Pushes IsPiled port v xs (λ w. w ≡ draws v.parts (v.put ++ xs) v.drawn)
puts port v xs all left views b at =
    let w : Draws = draws v.parts (v.put ++ xs) v.drawn in
    let mine = b.known port v at in (
      w,
      record {
        put = b.put ++ xs;
        gone = b.gone;
        stands = ap (λ l. l ++ xs) b.stands ∙ append_assoc b.gone left xs;
        parts = omega (arith, sum_set parts_of views port v w at, b.parts);
        weights = λ weight. omega (arith, sum_set (weighs weight) views port v w at, b.weights weight, sum_by-append weight left xs, sum_by-append weight b.put xs);
        known = known_set b.put (b.put ++ xs) views port w (record { put = λ some_part. ap (λ l. l ++ xs) (mine.put (omega (arith, all))); drawn = λ no_part. mine.drawn no_part })
            (λ j u apart e. record { put = λ some_part. absurd (omega (arith, others views port j v u apart at e, b.parts, all, some_part)); drawn = (b.known j u e).drawn });
      },
      refl,
    )

pub takes : (port : ℕ) (v : Draws) → 0 < v.parts → Takes IsPiled port v 1 (Draw v)
takes port v some_part [] left views any one b at = absurd (omega (arith, any))
takes port v some_part (x ∷ y ∷ xs) left views any one b at = absurd (omega (arith, one))
takes port v some_part (x ∷ []) left views any one b at =
    let w : Draws = draws v.parts v.put (v.drawn ++ x ∷ []) in
    let mine = b.known port v at in
    let put : v.put ≡ b.put = mine.put some_part in
    let more = λ (weight : NumberedWord → ℕ). sum_by-append weight v.drawn (x ∷ []) in
    let there : Contains b.put x = found x b.put (omega (arith, b.weights (mark x), sum_by-append (mark x) (x ∷ []) left, sum_by-cons (mark x) x [], marks_itself x)) in
    let after : (weight : NumberedWord → ℕ) → sum_by (weighs weight) (set views port w) + sum_by weight left ≡ sum_by weight b.put = λ weight.
    omega (arith, sum_set (weighs weight) views port v w at, b.weights weight, sum_by-append weight (x ∷ []) left, sum_by-append weight v.drawn (x ∷ [])) in (
      w,
      record {
        put = b.put;
        gone = b.gone ++ x ∷ [];
        stands = b.stands ∙ sym (append_assoc b.gone (x ∷ []) left);
        parts = omega (arith, sum_set parts_of views port v w at, b.parts);
        weights = after;
        known = known_set b.put b.put views port w (record { put = mine.put; drawn = λ no_part. absurd (omega (arith, no_part, some_part)) }) (λ j u apart e. b.known j u e);
      },
      record {
        adds = refl;
        among = All-cons (Contains v.put) x [] (subst (λ (l : List NumberedWord). Contains l x) (sym put) there) (All-nil (Contains v.put));
        oldest = All-cons (IsOldest v.parts v.put v.drawn) x []
            (record {
              ahead = b.gone;
              behind = left;
              others = drawn_by_others views port;
              stands = put ∙ b.stands;
              shared = all_gone (x ∷ left) views port v b at;
              alone = alone (x ∷ left) views port v b at;
            })
            (All-nil (IsOldest v.parts v.put v.drawn));
        few =
            (let drawn : sum_by (λ _. 1) w.drawn ≤ sum_by (weighs (λ _. 1)) (set views port w) = one_of (weighs (λ _. 1)) (set views port w) port w (set_there views port v w at) in
            omega (arith, after (λ _. 1), drawn, ones w.drawn, ones b.put, ap length put));
      },
    )

pub forks : (port : ℕ) (v : Draws) → 1 < v.parts → Forks IsPiled port v (draws (v.parts - 1) v.put v.drawn) (draws 1 v.put [])
forks port v two left views b at =
    let l : Draws = draws (v.parts - 1) v.put v.drawn in
    let r : Draws = draws 1 v.put [] in
    let mine = b.known port v at in
    let put = mine.put (omega (arith, two)) in
    let vs = set views port l in
    let known_vs = known_set b.put b.put views port l (record { put = λ _. put; drawn = λ no_part. absurd (omega (arith, no_part, two)) }) (λ j u apart e. b.known j u e) in
    record {
      put = b.put;
      gone = b.gone;
      stands = b.stands;
      parts = omega (arith, sum_set parts_of views port v l at, b.parts, two, sum_by-append parts_of vs (r ∷ []), sum_by-cons parts_of r []);
      weights = λ weight. omega (arith, sum_set (weighs weight) views port v l at, b.weights weight, sum_by-append (weighs weight) vs (r ∷ []), sum_by-cons (weighs weight) r []);
      known = λ j u e. ⊎_elim (λ (x : get_elem? vs j ≡ some u). known_vs j u x) (λ (is : r ≡ u). subst (Knows b.put) is (record { put = λ _. put; drawn = λ _. refl })) (at_snoc vs r u j e);
    }

pub merges : (port : ℕ) (v : Draws) (other : ℕ) (u : Draws) → 0 < v.parts → 0 < u.parts → Merges IsPiled port v other u (draws (v.parts + u.parts) v.put (v.drawn ++ u.drawn)) (draws 0 [] [])
merges port v other u some_v some_u left views b at two at' =
    let both : Draws = draws (v.parts + u.parts) v.put (v.drawn ++ u.drawn) in
    let vs = set views port both in
    let mine = b.known port v at in
    let known_vs = known_set b.put b.put views port both (record { put = λ _. mine.put some_v; drawn = λ no_part. absurd (omega (arith, no_part, some_v)) }) (λ j x apart e. b.known j x e) in
    record {
      put = b.put;
      gone = b.gone;
      stands = b.stands;
      parts = omega (arith, sum_set parts_of views port v both at, sum_set parts_of vs other u spent at', b.parts);
      weights = λ weight. omega (arith, sum_set (weighs weight) views port v both at, sum_set (weighs weight) vs other u spent at', b.weights weight, sum_by-append weight v.drawn u.drawn);
      known = known_set b.put b.put vs other spent (record { put = λ some_part. absurd (omega (arith, some_part)); drawn = λ _. refl }) (λ j x apart e. known_vs j x e);
    }

-- who has all parts drew all that was drawn
whole : (port : ℕ) (v : Draws) → v.parts ≡ MAX_DRAWERS → (left : List NumberedWord) (views : List Draws) → IsPiled left views → get_elem? views port ≡ some v → AreShared v.drawn left v.put
whole port v all left views b at =
    let put : v.put ≡ b.put = (b.known port v at).put (omega (arith, all)) in
    same_pieces v.put (v.drawn ++ left) (λ weight.
    let same : sum_by weight v.put ≡ sum_by weight b.put = ap (sum_by weight) put in
    let none : sum_by weight (drawn_by_others views port) ≡ 0 = ap (sum_by weight) (alone left views port v b at all) in
    omega (arith, same, b.weights weight, sum_set (weighs weight) views port v spent at, weighs_all weight (set views port spent), none, sum_by-append weight v.drawn left))

pub learns : (port : ℕ) (v : Draws) → v.parts ≡ MAX_DRAWERS → Learns IsPiled port v (λ left. AreShared v.drawn left v.put)
learns port v all left views b at = whole port v all left views b at

pub finds : (port : ℕ) (v : Draws) → Finds IsPiled port v (v.parts ≡ MAX_DRAWERS → AreShared v.drawn [] v.put)
finds port v views b at all = whole port v all [] views b at

pub finds_few : (port : ℕ) (v : Draws) → FindsFew IsPiled 0 port v (v.parts ≡ MAX_DRAWERS → AreShared v.drawn [] v.put)
finds_few port v [] views few b at all = whole port v all [] views b at
finds_few port v (x ∷ left) views few b at all = absurd (omega (arith, few))

-- ---- what contracts see of a draw

pub drawn_by : (pile pile' : PileId) (v u w : Draws) (piece : NumberedWord) (old : DrawerState) → drawer pile v ≡ old → pile' ≡ pile → u ≡ v → Draw u (piece ∷ []) w → IsDrawn old piece (drawer pile' w)
drawn_by pile pile' v u w piece old is here same draw =
    let put : w.put ≡ v.put = ap (λ (x : Draws). x.put) draw.adds ∙ ap (λ (x : Draws). x.put) same in
    subst (λ (s : DrawerState). IsDrawn s piece (drawer pile' w)) is
    (record {
      pile = here;
      parts = ap (λ (x : Draws). x.parts) draw.adds ∙ ap (λ (x : Draws). x.parts) same;
      put = put;
      drawn = ap (λ (x : Draws). x.drawn) draw.adds ∙ ap (λ (x : Draws). x.drawn ++ piece ∷ []) same;
      among = subst (λ (l : List NumberedWord). Contains l piece) (ap (λ (x : Draws). x.put) same) (All-head (Contains u.put) piece [] draw.among);
      oldest = subst (λ (x : Draws). IsOldest x.parts x.put x.drawn piece) same (All-head (IsOldest u.parts u.put u.drawn) piece [] draw.oldest);
      few = subst (λ (l : List NumberedWord). length w.drawn ≤ length l) put draw.few;
    })

pub drawn_or_not : (pile pile' : PileId) (v w : Draws) (E : Type 0) (result : Option NumberedWord) (old : DrawerState) → drawer pile v ≡ old → pile' ≡ pile
    → MatchOption result ((w ≡ v) × E) (λ piece. Draw v (piece ∷ []) w) → MatchOption result (drawer pile' w ≡ old) (λ piece. IsDrawn old piece (drawer pile' w))
drawn_or_not pile pile' v w E None old is here (same, empty) = rw (here, same) is
drawn_or_not pile pile' v w E (Some piece) old is here draw = drawn_by pile pile' v v w piece old is here refl draw
