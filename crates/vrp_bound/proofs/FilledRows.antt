-- The cells while they are filled, row by row, and the look-up of a row.
use Rattle.std.proofs.Common.{◌≡◌, ℕ, ◌+◌, ◌-◌, ◌*◌, ◌/◌, ◌%◌, ◌^◌, ◌<◌, ◌≤◌, List, [], ◌++◌, length, length-append, length-take, get_or, set, get_or-set_other, get_or-set_same, inl, inr, refl, sym, ◌∙◌, ap, subst, arith}
use Rattle.std.proofs.Math.Nat.{pow-le-pow_right}
use Rattle.std.proofs.lemmas.Bool.{cases_eq, cases_lt}
use Rattle.std.proofs.lemmas.List.{get_or-append_right, get_or_append_left, get_or_past}
use Rattle.std.proofs.lemmas.Nat.{div-mul-add, mod-mul-add, mul-le}
use Rattle.vrp_model.specs.Problem.{Problem, place_count, weight_of}
use Rattle.vrp_bound.specs.Inner.CompletionCells.{IsLeastCell, mark}
use Rattle.vrp_bound.specs.Inner.Scope.{IsScope}
use Rattle.vrp_model.specs.Word.{stands_in}
use Rattle.vrp_bound.specs.Inner.NgCells.{AreNgWalksSoFar, HasNgWalk}
use Rattle.vrp_bound.specs.Inner.CompletionCells.{HasWalk}
use Rattle.vrp_model.specs.NgWalks.{remembered}
use Rattle.vrp_model.proofs.Recalled.{few_bits}
use Rattle.vrp_model.specs.NgSets.{ng_set_of}
use Rattle.vrp_model.specs.Near.{NearOf, near_in}
use Rattle.vrp_bound.proofs.NgSteps.{least_at_once, none_at_once}

pub no_cells : (p : Problem) (near : ℕ → List ℕ) (among : List ℕ) (masks : ℕ) → AreNgWalksSoFar p near among masks []
no_cells p near among masks = record { each = λ k within. absurd (omega (arith, within)); within = λ k. omega arith }

-- the load, the place and the ng-set of an index
moved_cell : (p : Problem) (near : ℕ → List ℕ) (among : List ℕ) (masks k load at m cell : ℕ) → k ≡ (load * place_count p + at) * masks + m → at < place_count p → m < masks → IsLeastCell (HasNgWalk p near among at load m) cell → IsLeastCell (HasNgWalk p near among (k / masks % place_count p) (k / masks / place_count p) (k % masks)) cell
moved_cell p near among masks k load at m cell is place small least =
    let row : k / masks ≡ load * place_count p + at = ap (λ n. n / masks) is ∙ div-mul-add (load * place_count p + at) masks m small in
    let at_is : k / masks % place_count p ≡ at = ap (λ n. n % place_count p) row ∙ mod-mul-add load (place_count p) at place in
    let load_is : k / masks / place_count p ≡ load = ap (λ n. n / place_count p) row ∙ div-mul-add load (place_count p) at place in
    let m_is : k % masks ≡ m = ap (λ n. n % masks) is ∙ mod-mul-add (load * place_count p + at) masks m small in
    subst (λ n. IsLeastCell (HasNgWalk p near among (k / masks % place_count p) (k / masks / place_count p) n) cell) (sym m_is)
    (subst (λ n. IsLeastCell (HasNgWalk p near among (k / masks % place_count p) n m) cell) (sym load_is)
    (subst (λ n. IsLeastCell (HasNgWalk p near among n load m) cell) (sym at_is) least))

pub ng_cell : (p : Problem) (near : ℕ → List ℕ) (among : List ℕ) (masks : ℕ) (cells : List ℕ) (k load at m : ℕ) → k ≡ (load * place_count p + at) * masks + m → at < place_count p → m < masks → k < length cells → AreNgWalksSoFar p near among masks cells → IsLeastCell (HasNgWalk p near among at load m) (get_or cells k 0)
ng_cell p near among masks cells k load at m is place small within so_far =
    let cell = get_or cells k 0 in
    let row : k / masks ≡ load * place_count p + at = ap (λ n. n / masks) is ∙ div-mul-add (load * place_count p + at) masks m small in
    let at_is : k / masks % place_count p ≡ at = ap (λ n. n % place_count p) row ∙ mod-mul-add load (place_count p) at place in
    let load_is : k / masks / place_count p ≡ load = ap (λ n. n / place_count p) row ∙ div-mul-add load (place_count p) at place in
    let m_is : k % masks ≡ m = ap (λ n. n % masks) is ∙ mod-mul-add (load * place_count p + at) masks m small in
    subst (λ n. IsLeastCell (HasNgWalk p near among n load m) cell) at_is
    (subst (λ n. IsLeastCell (HasNgWalk p near among (k / masks % place_count p) n m) cell) load_is
    (subst (λ n. IsLeastCell (HasNgWalk p near among (k / masks % place_count p) (k / masks / place_count p) n) cell) m_is (so_far.each k within)))

-- a row more
pub more_cells : (p : Problem) (near : ℕ → List ℕ) (among : List ℕ) (masks : ℕ) (cells row : List ℕ) (load at : ℕ) → length cells ≡ (load * place_count p + at) * masks → at < place_count p → length row ≡ masks → AreNgWalksSoFar p near among masks cells
    → ((m : ℕ) → m < masks → IsLeastCell (HasNgWalk p near among at load m) (get_or row m 0)) → ((m : ℕ) → get_or row m 0 ≤ mark) → AreNgWalksSoFar p near among masks (cells ++ row)
more_cells p near among masks cells row load at next place all so_far least small = record {
  each = λ k within. elim (cases_lt k (length cells)) [
    | inl before ↦ subst (IsLeastCell (HasNgWalk p near among (k / masks % place_count p) (k / masks / place_count p) (k % masks))) (sym (get_or_append_left cells row 0 k before)) (so_far.each k before)
    | inr behind ↦ (
        let m = k - length cells in
        let below : m < masks = omega (arith, within, behind, all, length-append cells row) in
        let is : k ≡ (load * place_count p + at) * masks + m = omega (arith, next, behind) in
        let value : get_or (cells ++ row) k 0 ≡ get_or row m 0 = get_or-append_right cells row (length cells) k 0 refl behind in
        subst (IsLeastCell (HasNgWalk p near among (k / masks % place_count p) (k / masks / place_count p) (k % masks))) (sym value)
        (moved_cell p near among masks k load at m (get_or row m 0) is place below (least m below))
        )
  ];
  within = λ k. elim (cases_lt k (length cells)) [
    | inl before ↦ omega (arith, get_or_append_left cells row 0 k before, so_far.within k)
    | inr behind ↦ omega (arith, get_or-append_right cells row (length cells) k 0 refl behind, small (k - length cells))
  ];
}

-- the cells behind a stop lie before those of the load
pub behind_is_so_far : (load demand places stop at masks : ℕ) → 1 ≤ demand → demand ≤ load → stop < places → ((load - demand) * places + stop) * masks + masks ≤ (load * places + at) * masks
behind_is_so_far load demand places stop at masks some fits inside =
    let row : (load - demand) * places + stop + 1 ≤ load * places + at = omega (arith, mul-le (load - demand + 1) places load places (omega (arith, some, fits)) (omega arith), inside) in
    omega (arith, mul-le ((load - demand) * places + stop + 1) masks (load * places + at) masks row (omega arith))

-- the cells behind a stop, read as a row
pub row_of_cells : (p : Problem) (near : ℕ → List ℕ) (among : List ℕ) (masks : ℕ) (cells row : List ℕ) (rest stop place : ℕ) → place ≡ rest * place_count p + stop → stop < place_count p → place * masks + masks ≤ length cells → AreNgWalksSoFar p near among masks cells
    → ((m : ℕ) → m < masks → get_or row m 0 ≡ get_or cells (place * masks + m) 0) → (m : ℕ) → m < masks → IsLeastCell (HasNgWalk p near among stop rest m) (get_or row m 0)
row_of_cells p near among masks cells row rest stop place is inside fits so_far value m small =
    subst (IsLeastCell (HasNgWalk p near among stop rest m)) (sym (value m small))
    (ng_cell p near among masks cells (place * masks + m) rest stop m (ap (λ n. n * masks + m) is) inside small (omega (arith, fits, small)) so_far)

-- ---- the row of load 0

pub cleared_small : (row : List ℕ) → ((m : ℕ) → m < length row → get_or row m 0 ≡ mark) → (m : ℕ) → get_or row m 0 ≤ mark
cleared_small row cleared m = elim (cases_lt m (length row)) [
  | inl inside ↦ omega (arith, cleared m inside)
  | inr outside ↦ omega (arith, get_or_past row m 0 outside)
]

pub row_at_once : (p : Problem) (near : ℕ → List ℕ) (among : List ℕ) (masks at load weight : ℕ) (row : List ℕ) → IsScope p among → load ≡ 0 → 0 < length row → length row ≡ masks → weight ≡ weight_of p at 0 → ((m : ℕ) → m < length row → get_or row m 0 ≡ mark)
    → (m : ℕ) → m < masks → IsLeastCell (HasNgWalk p near among at load m) (get_or (set row 0 weight) m 0)
row_at_once p near among masks at load weight row scope empty some all weighs cleared m small =
    subst (λ n. IsLeastCell (HasNgWalk p near among at n m) (get_or (set row 0 weight) m 0)) (sym empty)
    (elim (cases_eq m 0) [
      | inl first ↦ (
          let here : get_or (set row 0 weight) 0 0 ≡ weight_of p at 0 = get_or-set_same row 0 weight 0 some ∙ weighs in
          subst (λ n. IsLeastCell (HasNgWalk p near among at 0 n) (get_or (set row 0 weight) n 0)) (sym first)
          (subst (IsLeastCell (HasNgWalk p near among at 0 0)) (sym here) (least_at_once p near among at scope))
          )
      | inr later ↦ (
          let here : get_or (set row 0 weight) m 0 ≡ mark = get_or-set_other row 0 m weight 0 later ∙ cleared m (omega (arith, small, all)) in
          subst (IsLeastCell (HasNgWalk p near among at 0 m)) (sym here) (none_at_once p near among at m scope (omega (arith, later)))
          )
    ])

pub row_at_once_small : (weight : ℕ) (row : List ℕ) → 0 < length row → weight ≤ 1000000000 → ((m : ℕ) → m < length row → get_or row m 0 ≡ mark) → (m : ℕ) → get_or (set row 0 weight) m 0 ≤ mark
row_at_once_small weight row some light cleared m = elim (cases_eq m 0) [
  | inl first ↦ (let here : get_or (set row 0 weight) 0 0 ≡ weight = get_or-set_same row 0 weight 0 some in omega (arith, here, ap (λ n. get_or (set row 0 weight) n 0) first, light))
  | inr later ↦ omega (arith, get_or-set_other row 0 m weight 0 later, cleared_small row cleared m)
]

-- the ng-sets at a place are no more than the masks
pub few_near : (near : NearOf) (masks : ℕ) → masks ≡ 2 ^ near.size → (place : ℕ) → 2 ^ length (near_in near place) ≤ masks
few_near near masks bits place =
    let few : length (near_in near place) ≤ near.size = simp length-take (omega arith) in
    let most : 2 ^ length (near_in near place) ≤ 2 ^ near.size = pow-le-pow_right {n = 2} (omega arith) few in
    omega (arith, bits, most)

-- ---- the least of a row, whatever is remembered

pub count_rows : (rows masks length : ℕ) → 0 < masks → length ≡ rows * masks → length / masks ≡ rows
count_rows rows masks length some all = ap (λ n. n / masks) (omega (arith, all)) ∙ div-mul-add rows masks 0 some

pub least_of_row : (p : Problem) (near : ℕ → List ℕ) (among : List ℕ) (masks : ℕ) (cells row : List ℕ) (place best : ℕ) → ((place : ℕ) → 2 ^ length (near place) ≤ masks) → AreNgWalksSoFar p near among masks cells → place * masks + masks ≤ length cells → length row ≡ masks
    → ((m : ℕ) → m < masks → get_or row m 0 ≡ get_or cells (place * masks + m) 0) → ((m : ℕ) → m < length row → best ≤ get_or row m 0) → (best < mark → (m : ℕ) × (m < length row) × (get_or row m 0 ≡ best))
    → IsLeastCell (HasWalk p near among (place % place_count p) (place / place_count p)) best
least_of_row p near among masks cells row place best wide so_far fits all value low met =
    let at = place % place_count p in
    let load = place / place_count p in
    let cell : (m : ℕ) → m < masks → IsLeastCell (HasNgWalk p near among at load m) (get_or row m 0) = λ m small.
    (let k = place * masks + m in
    subst (IsLeastCell (HasNgWalk p near among at load m)) (sym (value m small))
    (subst (λ n. IsLeastCell (HasNgWalk p near among at load n) (get_or cells k 0)) (mod-mul-add place masks m small)
    (subst (λ n. IsLeastCell (HasNgWalk p near among (n % place_count p) (n / place_count p) (k % masks)) (get_or cells k 0)) (div-mul-add place masks m small) (so_far.each k (omega (arith, fits, small)))))) in
    record {
      met = λ small.
          let (m, inside, is) = met small in
          let has = (cell m (omega (arith, inside, all))).met (omega (arith, is, small)) in
          record { stops = has.stops; walks = has.walks; loaded = has.loaded; costs = has.costs ∙ is };
      least = λ cost has.
          let m = ng_set_of near at has.stops in
          let small : m < masks = omega (arith, few_bits (stands_in (remembered near has.stops)) (near at), wide at) in
          let least = (cell m small).least cost (record { stops = has.stops; walks = has.walks; loaded = has.loaded; remembers = refl; costs = has.costs }) in
          omega (arith, least, low m (omega (arith, small, all)));
    }
