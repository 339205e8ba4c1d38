-- A list by place, of each place by stop, and of each stop by ng-set.
use Rattle.std.proofs.Common.{◌≡◌, ℕ, zero, suc, ◌+◌, ◌*◌, ◌/◌, ◌%◌, ◌^◌, ◌<◌, ◌≤◌, ◌-◌, List, [], ◌∷◌, ◌++◌, length, get_or, take, drop, get_or-take, get_or-drop, subst, sym, ap, ◌∙◌, arith}
use Rattle.std.proofs.Math.Nat.{pow-le-pow_right}
use Rattle.std.proofs.lemmas.Nat.{div-mul-add, div_below, mod-mul-add, mod_below, mul-add-lt}
use Rattle.vrp_model.proofs.PushedCells.{each_push}
use Rattle.vrp_model.specs.Inner.Before.{AreBeforeBy}
use Rattle.vrp_model.specs.NgSets.{ng_set_before}

-- there are few ng-sets
pub few_masks : (size : ℕ) → size ≤ 4 → 2 ^ size ≤ 16
few_masks size few = let most : 2 ^ size ≤ 2 ^ 4 = pow-le-pow_right {n = 2} (omega arith) few in omega (arith, most)

-- the place and the stop that an index stands for
pub record IsPair (places pair : ℕ) : Type 0 where
  pub some : 0 < places
  pub at : pair / places < places
  pub stop : pair % places < places

pub pair_of : (places masks index : ℕ) → 0 < masks → index < places * places * masks → IsPair places (index / masks)
pair_of places masks index some inside =
    let below : index / masks < places * places = div_below index masks (places * places) some inside in
    let positive : 0 < places = some_places places (index / masks) below in
    record { some = positive; at = div_below (index / masks) places places positive below; stop = mod_below (index / masks) places positive }
  where
    some_places : (places pair : ℕ) → pair < places * places → 0 < places
    some_places zero pair below = absurd (omega (arith, below))
    some_places (suc n) pair below = omega arith

pub before_more : (near : ℕ → List ℕ) (masks places : ℕ) (before new : List ℕ) (index ng_set : ℕ) → new ≡ before ++ ng_set ∷ [] → length before ≡ index
    → ng_set ≡ ng_set_before (near (index / masks / places)) (near (index / masks % places)) masks (index / masks / places) (index / masks % places) (index % masks)
    → AreBeforeBy near masks places before → AreBeforeBy near masks places new
before_more near masks places before new index ng_set is next value are =
    let Is : ℕ → ℕ → Type 0 = λ k n. n ≡ ng_set_before (near (k / masks / places)) (near (k / masks % places)) masks (k / masks / places) (k / masks % places) (k % masks) in
    subst (AreBeforeBy near masks places) (sym is) (each_push Is before ng_set are (subst (λ k. Is k ng_set) (sym next) value))

-- a part of a list, read
pub part_value : (xs : List ℕ) (start count m : ℕ) → m < count → get_or (take (start + count - start) (drop start xs)) m 0 ≡ get_or xs (start + m) 0
part_value xs start count m inside = get_or-take (start + count - start) (drop start xs) m 0 (omega (arith, inside)) ∙ get_or-drop start xs m 0

pub before_at : (near : ℕ → List ℕ) (masks places : ℕ) (before : List ℕ) (at stop m : ℕ) → at < places → stop < places → m < masks → length before ≡ places * places * masks → AreBeforeBy near masks places before → get_or before ((at * places + stop) * masks + m) 0 ≡ ng_set_before (near at) (near stop) masks at stop m
before_at near masks places before at stop m inside stop_inside small all are =
    let pair = at * places + stop in
    let k = pair * masks + m in
    let below : pair < places * places = mul-add-lt at places stop places inside stop_inside in
    let within : k < length before = omega (arith, all, mul-add-lt pair masks m (places * places) below small) in
    let pair_is : k / masks ≡ pair = div-mul-add pair masks m small in
    let at_is : k / masks / places ≡ at = ap (λ n. n / places) pair_is ∙ div-mul-add at places stop stop_inside in
    let stop_is : k / masks % places ≡ stop = ap (λ n. n % places) pair_is ∙ mod-mul-add at places stop stop_inside in
    let m_is : k % masks ≡ m = mod-mul-add pair masks m small in
    subst (λ a. get_or before k 0 ≡ ng_set_before (near a) (near stop) masks a stop m) at_is
    (subst (λ s. get_or before k 0 ≡ ng_set_before (near (k / masks / places)) (near s) masks (k / masks / places) s m) stop_is
    (subst (λ n. get_or before k 0 ≡ ng_set_before (near (k / masks / places)) (near (k / masks % places)) masks (k / masks / places) (k / masks % places) n) m_is (are k within)))
