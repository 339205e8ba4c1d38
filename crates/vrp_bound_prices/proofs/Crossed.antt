-- Each truck that serves some customers inside a cut drives in and out again, so a feasible word crosses the border twice for each
-- truck that must.
use Rattle.std.proofs.Common.{◌≡◌, ◌≢◌, ℕ, suc, ◌+◌, ◌*◌, ◌≤◌, ◌<◌, ◌==◌, Bool, true, false, not, if◌then◌else◌, List, [], ◌∷◌, refl, sym, ap, subst, ◌∙◌, arith}
use Rattle.std.specs.List.{All, Contains, sum_by}
use Rattle.std.proofs.lemmas.Bool.Decides.{nat_tests}
use Rattle.std.proofs.lemmas.List.Elements.{All-contains_itself}
use Rattle.std.proofs.lemmas.List.Folds.{list_any_at}
use Rattle.std.proofs.lemmas.List.Sums.{sum_by-cons}
use Rattle.vrp_model.specs.Problem.{IsProblem, Problem, customers, demand_of}
use Rattle.vrp_model.specs.Route.{load_of}
use Rattle.vrp_model.specs.Word.{IsLawfulWord, served_in, stands_in}
use Rattle.vrp_model.proofs.CustomerPlaces.{customer_is_some}
use Rattle.vrp_model.proofs.DistinctWithin.{sum_among}
use Rattle.vrp_model.proofs.UnservedCustomers.{all_unserved, stands_behind}
use Rattle.vrp_model.proofs.Words.{last_behind, last_is, serves_customer}
use Rattle.vrp_bound.proofs.SymbolBySymbol.{HoldsBySymbol, by_symbols, sum_behind}
use Rattle.vrp_bound_prices.specs.CapacityCut.{CapacityCut, IsCut, crossings}

-- ---- one arc, by where its ends are

-- so much, if a place is inside
abbrev pub if_inside : Bool → ℕ → ℕ
if_inside inside amount = if inside then amount else 0

-- one end is inside, and the other is not
abbrev pub is_crossed : Bool → Bool → ℕ
is_crossed from to = if (if from then not to else to) then 1 else 0

-- What trucks yet take inside, twice, fits into as many trucks as the border is yet crossed. Where one is inside, what it has may
-- all be from there.
abbrev pub Fits : Bool → ℕ → ℕ → ℕ → ℕ → Type 0
Fits inside load taken crossed capacity = 2 * (taken + if_inside inside load) ≤ (crossed + if_inside inside 1) * capacity

step_fits : (from to : Bool) (load demand taken crossed capacity : ℕ) → load + demand ≤ capacity → Fits to (load + demand) taken crossed capacity → Fits from load (if_inside to demand + taken) (is_crossed from to + crossed) capacity
step_fits true true load demand taken crossed capacity light rest = omega (arith, light, rest)
step_fits true false load demand taken crossed capacity light rest = omega (arith, light, rest)
step_fits false true load demand taken crossed capacity light rest = omega (arith, light, rest)
step_fits false false load demand taken crossed capacity light rest = omega (arith, light, rest)

-- where an arc begins and ends on one side, its border crossings are even
step_even : (from to last : Bool) (crossed half : ℕ) → crossed + if_inside to 1 + if_inside last 1 ≡ 2 * half → (more : ℕ) × (is_crossed from to + crossed + if_inside from 1 + if_inside last 1 ≡ 2 * more)
step_even true true last crossed half even = (half, omega (arith, even))
step_even true false last crossed half even = (half + 1, omega (arith, even))
step_even false true last crossed half even = (half, omega (arith, even))
step_even false false last crossed half even = (half, omega (arith, even))

-- ---- along a word

-- what a customer demands, if it is inside
abbrev pub inner_demand : Problem → List ℕ → ℕ → ℕ
inner_demand p inside k = if_inside (stands_in inside k) (demand_of p k)

abbrev FitsAlong : Problem → List ℕ → ℕ → ℕ → List ℕ → Type 0
FitsAlong p inside at load more = Fits (stands_in inside at) load (sum_by (inner_demand p inside) (served_in more)) (crossings inside at more) p.capacity

sum_with : (f : ℕ → ℕ) (k : ℕ) (more : List ℕ) → sum_by f (served_in (suc k ∷ more)) ≡ f (suc k) + sum_by f (served_in more)
sum_with f k more = ap (sum_by f) (serves_customer k more) ∙ sum_by-cons f (suc k) (served_in more)

-- a step to a customer
to_customer : (p : Problem) (inside : List ℕ) (at load k : ℕ) (more : List ℕ) → load + demand_of p (suc k) ≤ p.capacity → FitsAlong p inside (suc k) (load + demand_of p (suc k)) more → FitsAlong p inside at load (suc k ∷ more)
to_customer p inside at load k more fits rest =
    let crossed = is_crossed (stands_in inside at) (stands_in inside (suc k)) + crossings inside (suc k) more in
    let next = step_fits (stands_in inside at) (stands_in inside (suc k)) load (demand_of p (suc k)) (sum_by (inner_demand p inside) (served_in more)) (crossings inside (suc k) more) p.capacity fits rest in
    subst (λ n. Fits (stands_in inside at) load n crossed p.capacity) (sym (sum_with (inner_demand p inside) k more)) next

-- and to the depot, which is outside
to_depot : (p : Problem) (inside : List ℕ) (at load : ℕ) (more : List ℕ) → stands_in inside 0 ≡ false → load ≤ p.capacity → FitsAlong p inside 0 0 more → FitsAlong p inside at load (0 ∷ more)
to_depot p inside at load more outside light rest =
    let taken = sum_by (inner_demand p inside) (served_in more) in
    let crossed = is_crossed (stands_in inside at) (stands_in inside 0) + crossings inside 0 more in
    let arrived : Fits (stands_in inside 0) (load + 0) taken (crossings inside 0 more) p.capacity = rw outside (rw outside at rest) in
    let nothing : if_inside (stands_in inside 0) 0 + taken ≡ taken = rw outside (omega arith) in
    let next = step_fits (stands_in inside at) (stands_in inside 0) load 0 taken (crossings inside 0 more) p.capacity (omega (arith, light)) arrived in
    subst (λ n. Fits (stands_in inside at) load n crossed p.capacity) nothing next

fits_by_symbol : (p : Problem) (inside : List ℕ) → stands_in inside 0 ≡ false → HoldsBySymbol p (FitsAlong p inside)
fits_by_symbol p inside outside = record {
  nothing = rw outside (omega arith);
  home = λ j load more place light rest. to_depot p inside (suc j) load more outside light rest;
  leaves = λ k more fits rest. (
      let from_nothing : 0 + demand_of p (suc k) ≡ demand_of p (suc k) = omega arith in
      to_customer p inside 0 0 k more (omega (arith, fits)) (subst (λ n. FitsAlong p inside (suc k) n more) (sym from_nothing) rest));
  continues = λ j load k more place differs fits rest. to_customer p inside (suc j) load k more fits rest;
}

-- ---- how often, from a place to the last of the stops

even_crossings : (inside : List ℕ) (at : ℕ) (stops : List ℕ) → (half : ℕ) × (crossings inside at stops + if_inside (stands_in inside at) 1 + if_inside (stands_in inside (last_behind at stops)) 1 ≡ 2 * half)
even_crossings inside at [] = (if_inside (stands_in inside at) 1, omega arith)
even_crossings inside at (stop ∷ stops) =
    let (half, even) = even_crossings inside stop stops in
    step_even (stands_in inside at) (stands_in inside stop) (stands_in inside (last_behind stop stops)) (crossings inside stop stops) half even

-- ---- the customers inside

-- what differs from each of them isn't inside
pub stands_not : (inside : List ℕ) (k : ℕ) → All (λ other. other ≢ k) inside → stands_in inside k ≡ false
stands_not [] k differs = refl
stands_not (other ∷ inside) k differs = stands_behind other k inside (differs 0 other (omega arith)) ∙ stands_not inside k (λ i d lt. differs (suc i) d (omega (arith, lt)))

-- so the depot isn't
pub depot_outside : (inside : List ℕ) → All (λ k. 0 < k) inside → stands_in inside 0 ≡ false
depot_outside inside some = stands_not inside 0 (λ i d lt same. (let above = some i d lt in omega (arith, above, same)))

pub stands_where : (inside : List ℕ) (k : ℕ) → Contains inside k → stands_in inside k ≡ true
stands_where inside k (i, lt, is) = list_any_at (λ symbol. symbol == k) inside i k lt (grind (arith, nat_tests, is))

inner_load : (p : Problem) (inside some : List ℕ) → All (Contains inside) some → sum_by (inner_demand p inside) some ≡ load_of p some
inner_load p inside [] within = refl
inner_load p inside (k ∷ some) within =
    let stands : stands_in inside k ≡ true = stands_where inside k (within 0 k (omega arith)) in
    let here : inner_demand p inside k ≡ demand_of p k = rw stands refl in
    let rest = inner_load p inside some (λ i d lt. within (suc i) d (omega (arith, lt))) in
    omega (arith, here, rest, sum_by-cons (inner_demand p inside) k some, sum_by-cons (demand_of p) k some)

-- a feasible word crosses the border of a cut twice for each of its trucks
pub crossed_by_trucks : (p : Problem) (word : List ℕ) (cut : CapacityCut) → IsProblem p → IsLawfulWord p word → IsCut p cut → 2 * cut.trucks ≤ crossings cut.inside 0 word
crossed_by_trucks p word cut problem lawful is =
    let inside = cut.inside in
    let outside : stands_in inside 0 ≡ false = depot_outside inside (λ i d lt. customer_is_some p _ (is.known i d lt)) in
    let fits : FitsAlong p inside 0 0 word = by_symbols p (FitsAlong p inside) (fits_by_symbol p inside outside) problem [] word lawful in
    let (half, even) = even_crossings inside 0 word in
    let home : last_behind 0 word ≡ 0 = sym (last_is word) ∙ lawful.closed in
    let at_home : if_inside (stands_in inside (last_behind 0 word)) 1 ≡ 0 = rw home (rw outside refl) in
    let at_start : if_inside (stands_in inside 0) 1 ≡ 0 = rw outside refl in
    let twice : crossings inside 0 word ≡ 2 * half = omega (arith, even, at_home, at_start) in
    let served = sum_behind (inner_demand p inside) p [] word lawful in
    let all : sum_by (inner_demand p inside) (served_in word) ≡ sum_by (inner_demand p inside) (customers p) = served ∙ ap (sum_by (inner_demand p inside)) (all_unserved p) in
    let among = sum_among (inner_demand p inside) inside (customers p) is.once is.known in
    let load = inner_load p inside inside (All-contains_itself inside) in
    let served_inside = sum_by (inner_demand p inside) (served_in word) in
    let at_depot : Fits false 0 served_inside (crossings inside 0 word) p.capacity = subst (λ b. Fits b 0 served_inside (crossings inside 0 word) p.capacity) outside fits in
    let taken : 2 * served_inside ≤ crossings inside 0 word * p.capacity = omega (arith, at_depot) in
    let halves : crossings inside 0 word * p.capacity ≡ 2 * (half * p.capacity) = ap (λ n. n * p.capacity) twice ∙ omega arith in
    let carried : load_of p inside ≤ half * p.capacity = omega (arith, taken, halves, all, among, load) in
    omega (arith, is.carry.least half carried, twice)
