-- The routes of a pool that rounds of prices leave.
use Rattle.std.proofs.Common.{◌≡◌, ◌⊎◌, ℕ, suc, zero, ◌+◌, ◌<◌, ◌≤◌, inl, inr, Bool, true, false, List, [], ◌∷◌, ◌++◌, get_or, length, map, slice_set, refl, sym, ◌∙◌, ap, subst, arith}
use Rattle.std.specs.List.{Contains}
use Rattle.std.proofs.lemmas.Bool.{cases_lt}
use Rattle.std.proofs.lemmas.Grind.{get_or-set_at}
use Rattle.std.proofs.lemmas.List.{get_or-map, get_or-set_other, get_or_append_left, get_or_push, length-map, length_push, map_push}
use Rattle.std.proofs.lemmas.List.Elements.{Contains-get_or}
use Rattle.vrp_partition.specs.Choice.{IsChoice, cost_of, routes_to, set_of}
use Rattle.vrp_partition.specs.Narrowing.{route_at}
use Rattle.vrp_partition.specs.Prices.{AllFit, load_of}
use Rattle.vrp_partition.specs.Pricing.{MarksWithin, StandsInNone}
use Rattle.vrp_partition.specs.declared.route.Route.{Route}

abbrev none : Route
none = record { set = 0; cost = 0 }

-- an index that may differ by its default
pub same_at : {X : Type 0} (xs : List X) (k : ℕ) (d e : X) → k < length xs → get_or xs k d ≡ get_or xs k e
same_at [] k d e lt = absurd (omega arith)
same_at (x ∷ xs) zero d e lt = refl
same_at (x ∷ xs) (suc k) d e lt = same_at xs k d e (omega arith)

pub has_place : (places : List ℕ) (k at : ℕ) → at < length places → get_or places at 0 ≡ k → Contains places k
has_place places k at lt is = (at, lt, same_at places at k 0 lt ∙ is)

-- a place is one of these, or none
pub place_or_not : (places : List ℕ) (k : ℕ) → Contains places k ⊎ (Contains places k → ⊥)
place_or_not [] k = inr (λ has. absurd (omega (arith, has.1)))
place_or_not (place ∷ places) k = elim (cases_lt place k) [
  | inl less ↦ go (λ e. omega (arith, e, less)) (place_or_not places k)
  | inr more ↦ elim (cases_lt k place) [
    | inl less ↦ go (λ e. omega (arith, e, less)) (place_or_not places k)
    | inr same ↦ inl (0, omega arith, omega (arith, more, same))
  ]
]
  where
    rest_has : (place ≡ k → ⊥) → Contains (place ∷ places) k → Contains places k
    rest_has other (zero, lt, is) = absurd (other is)
    rest_has other (suc i, lt, is) = (i, omega (arith, lt), is)

    go : (place ≡ k → ⊥) → Contains places k ⊎ (Contains places k → ⊥) → Contains (place ∷ places) k ⊎ (Contains (place ∷ places) k → ⊥)
    go other (inl has) = inl (suc has.0, omega (arith, has.1), has.2)
    go other (inr lacks) = inr (λ has. lacks (rest_has other has))

pub all_places : (count : ℕ) (places : List ℕ) → length places ≡ count → ((at : ℕ) → at < count → get_or places at 0 ≡ at) → (k : ℕ) → k < count → Contains places k
all_places count places long are k lt = has_place places k k (omega (arith, lt, long)) (are k lt)

-- one more place, by what is known of each
pub more_at : (P : ℕ → ℕ → Type 0) (places : List ℕ) (place : ℕ) → ((at : ℕ) → at < length places → P at (get_or places at 0)) → P (length places) place
    → (at : ℕ) → at < length (places ++ place ∷ []) → P at (get_or (places ++ place ∷ []) at 0)
more_at P places place each last at lt =
    elim (cases_lt at (length places)) [
      | inl before ↦ subst (P at) (sym (get_or_append_left places (place ∷ []) 0 at before)) (each at before)
      | inr after ↦
          let is : length places ≡ at = omega (arith, lt, after, length_push places place) in
          subst (P at) (sym (get_or_push places place 0 at is)) (subst (λ n. P n place) is last)
    ]

pub more_contains : (places : List ℕ) (place k : ℕ) → Contains places k → Contains (places ++ place ∷ []) k
more_contains places place k (i, lt, is) = (i, omega (arith, lt, length_push places place), get_or_append_left places (place ∷ []) k i lt ∙ is)

pub more_routes : (pool routes : List Route) (places : List ℕ) (place : ℕ) (d : Route) → place < length pool → routes ≡ map (route_at pool) places → routes ++ get_or pool place d ∷ [] ≡ map (route_at pool) (places ++ place ∷ [])
more_routes pool routes places place d lt are =
    ap (λ rs. rs ++ get_or pool place d ∷ []) are ∙ (ap (λ r. map (route_at pool) places ++ r ∷ []) (same_at pool place d none lt) ∙ sym (map_push (route_at pool) places place))

-- a cheap choice of the pool is one of the routes at the places
stays : (pool routes parts : List Route) (places : List ℕ) (customers trucks fewest limit : ℕ) → routes ≡ map (route_at pool) places
    → ((k : ℕ) → k < length pool → (Contains places k → ⊥) → StandsInNone pool customers trucks fewest limit (route_at pool k))
    → IsChoice set_of pool customers trucks parts → fewest ≤ routes_to customers parts → cost_of parts ≤ limit → IsChoice set_of routes customers trucks parts
stays pool routes parts places customers trucks fewest limit are rest choice many within = record {
  known = λ i d lt. part i d lt (choice.known i d lt);
  once = choice.once;
  few = choice.few;
}
  where
    route_there : (k : ℕ) (x : Route) → route_at pool k ≡ x → Contains places k → Contains routes x
    route_there k x e (i, lt, is) =
        subst (λ rs. Contains rs x) (sym are) (i, omega (arith, lt, length-map places (route_at pool)), get_or-map (route_at pool) places i k x lt ∙ (ap (route_at pool) is ∙ e))

    part : (i : ℕ) (d : Route) → i < length parts → Contains pool (get_or parts i d) → Contains routes (get_or parts i d)
    part i d lt (k, inside, is) =
        let e : route_at pool k ≡ get_or parts i d = same_at pool k none (get_or parts i d) inside ∙ is in
        elim (place_or_not places k) [
          | inl has ↦ route_there k (get_or parts i d) e has
          | inr lacks ↦ absurd (let more : limit < cost_of parts = rest k inside lacks parts choice many (subst (Contains parts) (sym e) (Contains-get_or parts i d lt)) in omega (arith, more, within))
        ]

-- a route that a round leaves out stands in no cheap choice of the pool
pub left_out : (pool routes : List Route) (places kept : List ℕ) (marks : List Bool) (customers trucks fewest limit : ℕ) → routes ≡ map (route_at pool) places → length marks ≡ length places
    → ((k : ℕ) → k < length pool → (Contains places k → ⊥) → StandsInNone pool customers trucks fewest limit (route_at pool k))
    → MarksWithin routes customers trucks fewest limit marks
    → ((at : ℕ) → at < length places → get_or marks at false ≡ true → Contains kept (get_or places at 0))
    → (k : ℕ) → k < length pool → (Contains kept k → ⊥) → StandsInNone pool customers trucks fewest limit (route_at pool k)
left_out pool routes places kept marks customers trucks fewest limit are long rest within all k inside lacks parts choice many has =
    elim (place_or_not places k) [
      | inr other ↦ rest k inside other parts choice many has
      | inl (i, lt, is) ↦ by_mark i lt (sym (same_at places i k 0 lt) ∙ is) (get_or marks i false) refl
    ]
  where
    by_mark : (i : ℕ) → i < length places → get_or places i 0 ≡ k → (b : Bool) → get_or marks i false ≡ b → limit < cost_of parts
    by_mark i lt is true mark = absurd (lacks (subst (Contains kept) is (all i lt mark)))
    by_mark i lt is false mark =
        elim (cases_lt limit (cost_of parts)) [
          | inl more ↦ more
          | inr cheap ↦
              let same : get_or routes i none ≡ route_at pool k = ap (λ rs. get_or rs i none) are ∙ (get_or-map (route_at pool) places i 0 none lt ∙ ap (route_at pool) is) in
              within.rest i none (omega (arith, lt, ap length are, length-map places (route_at pool))) mark parts
              (stays pool routes parts places customers trucks fewest limit are rest choice many cheap) many (subst (Contains parts) (sym same) has)
        ]

-- one more place is marked
pub marked_more : (marks : List Bool) (places : List ℕ) (index place : ℕ) → place < length marks → get_or places index 0 ≡ place
    → ((at : ℕ) → at < index → get_or marks (get_or places at 0) false ≡ true)
    → (at : ℕ) → at < index + 1 → get_or (slice_set marks place true) (get_or places at 0) false ≡ true
marked_more marks places index place lt is each at less =
    elim (cases_lt (get_or places at 0) place) [
      | inl below ↦ other (omega (arith, below))
      | inr above ↦ elim (cases_lt place (get_or places at 0)) [
        | inl over ↦ other (omega (arith, over))
        | inr same ↦ get_or-set_at marks place (get_or places at 0) true false (omega (arith, above, same)) lt
      ]
    ]
  where
    other : (get_or places at 0 ≡ place → ⊥) → get_or (slice_set marks place true) (get_or places at 0) false ≡ true
    other differs = get_or-set_other marks place (get_or places at 0) true false differs ∙ each at (elim (cases_lt at index) [
      | inl before ↦ before
      | inr last ↦ absurd (differs (let e : index ≡ at = omega (arith, less, last) in ap (λ n. get_or places n 0) (sym e) ∙ is))
    ])

-- what fits in the pool fits at its places
pub fit_kept : (pool routes : List Route) (places demands : List ℕ) (capacity : ℕ) → routes ≡ map (route_at pool) places → ((at : ℕ) → at < length places → get_or places at 0 < length pool) → AllFit demands capacity pool → AllFit demands capacity routes
fit_kept pool routes places demands capacity are inside fit = subst (AllFit demands capacity) (sym are) (λ k d lt.
    let there : k < length places = omega (arith, lt, length-map places (route_at pool)) in
    subst (λ (r : Route). load_of demands r.set ≤ capacity) (sym (get_or-map (route_at pool) places k 0 d there)) (fit (get_or places k 0) none (inside k there)))

-- a place that isn't marked is none of those that are left
pub unmarked_rest : (pool : List Route) (places : List ℕ) (marks : List Bool) (customers trucks fewest limit : ℕ)
    → ((k : ℕ) → k < length pool → (Contains places k → ⊥) → StandsInNone pool customers trucks fewest limit (route_at pool k))
    → ((k : ℕ) → k < length pool → get_or marks k false ≡ false → Contains places k → ⊥)
    → (k : ℕ) (d : Route) → k < length pool → get_or marks k false ≡ false → StandsInNone pool customers trucks fewest limit (get_or pool k d)
unmarked_rest pool places marks customers trucks fewest limit rest none_there k d lt unmarked = subst (StandsInNone pool customers trucks fewest limit) (same_at pool k none d lt) (rest k lt (none_there k lt unmarked))
