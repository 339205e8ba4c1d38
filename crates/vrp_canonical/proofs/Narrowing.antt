-- Questions about parts of the pool: which of two halves of a run of routes the next route stands in.
use Rattle.std.proofs.Common.{◌≡◌, Bool, true, false, ℕ, suc, ◌+◌, ◌-◌, ◌<◌, ◌≤◌, ◌⊎◌, inl, inr, List, [], ◌∷◌, ◌++◌, bit_and, bit_xor, drop, length, length-drop, get_or, refl, sym, ap, subst, ◌∙◌, append_assoc, append-nil, arith}
use Rattle.std.specs.Int.{bit_at}
use Rattle.std.specs.List.{All, AllPairs, Contains, remove}
use Rattle.std.specs.List.Sorted.{IsPermutation}
use Rattle.std.proofs.lemmas.Bool.{cases_lt}
use Rattle.std.proofs.lemmas.List.{get_or-drop, get_or_default, length-map}
use Rattle.std.proofs.lemmas.List.Elements.{All-append, All-cons, All-contains, All-contains_itself, All-push, All-tail, All-weaker, Contains-append_left, Contains-get_or, Contains-push}
use Rattle.std.proofs.lemmas.List.Sorted.{All-permutation, Contains-permutation, IsPermutation-remove, IsPermutation-sym, length_permutation, sum_by-IsPermutation}
use Rattle.std.proofs.lemmas.List.Sums.{get_or-le-sum_by, sum_by-append, sum_by-cons}
use Rattle.std.proofs.lemmas.Nat.Bits.{bit_at-lt}
use Rattle.vrp_canonical.specs.Passing.{AllHave, GoesBelow, IsAfter, IsAnswer, IsBegun, IsInside, IsPart, StandsWithin, route_in}
use Rattle.vrp_canonical.specs.Reaching.{Continues, IsPoolOf, IsRoute, IsTask, Reaches, routes_at, seen}
use Rattle.vrp_canonical.specs.declared.residual.Residual.{Residual}
use Rattle.vrp_canonical.proofs.Begun.{asked_continues, is_seen, moved_plan, others_known, set_within, standing, taken_bit, taken_on}
use Rattle.vrp_canonical.proofs.Counted.{served_visited}
use Rattle.vrp_canonical.proofs.NextRoutes.{none_earlier, none_left}
use Rattle.vrp_canonical.proofs.PlanChoices.{are_distinct, plan_reaches, routes_known}
use Rattle.vrp_model.specs.Order.{IsEarlier, IsCanonical}
use Rattle.vrp_model.specs.Problem.{Problem, customers}
use Rattle.vrp_model.specs.Route.{IsLawful, PricedPlan, plan_cost}
use Rattle.vrp_model.proofs.CustomerPlaces.{customer_is_some}
use Rattle.vrp_partition.specs.Choice.{visits}
use Rattle.vrp_partition.specs.Choice.{set_of as set_in}
use Rattle.vrp_partition.specs.declared.route.Route.{Route}
use Rattle.vrp_model.specs.CustomerSet.{set_of}

-- one of the parts has a customer who is visited
pub record Visitor (parts : List Route) (k : ℕ) : Type 0 where
  pub route : Route
  pub here : Contains parts route
  pub has : 0 < bit_at route.set k

visitor : (parts : List Route) (k : ℕ) → 0 < visits set_in parts k → Visitor parts k
visitor [] k some = absurd (let none : visits set_in [] k ≡ 0 = refl in omega (arith, none, some))
visitor (x ∷ parts) k some =
    elim (cases_lt 0 (bit_at x.set k)) [
      | inl has ↦ record { route = x; here = (0, omega arith, refl); has = has }
      | inr none ↦
          let rest = visitor parts k (omega (arith, some, none, sum_by-cons (λ (r : Route). bit_at r.set k) x parts)) in
          record { route = rest.route; here = (let (i, lt, is) = rest.here in (suc i, omega (arith, lt), is)); has = rest.has }
    ]

-- the answer about a part is yes: a plan goes on with a route that stands below its upper end
pub said_yes : (p : Problem) (limit : ℕ) (stops : List (List ℕ)) (pool : List Route) (whole : Residual) (task : IsTask p limit stops pool whole)
    → (index : ℕ) (chosen : List ℕ) (rest : Residual) → IsBegun p stops task.plan whole index chosen rest
    → (customer low high : ℕ) (part : List Route) → IsPart pool rest.unserved customer low high (length pool) part → bit_at rest.unserved customer ≡ 1
    → Reaches part rest.unserved rest.trucks rest.most
    → GoesBelow p stops whole.most (routes_at stops chosen) high
said_yes p limit stops pool whole task index chosen rest begun customer low high part is_part here reached =
    let parts = reached.parts in
    let v = visitor parts customer (omega (arith, reached.choice.once customer, here)) in
    let x = v.route in
    let (i, lt, is) = v.here in
    let others = remove parts i in
    let moved : IsPermutation parts (x ∷ others) = IsPermutation-remove parts i x lt (sym is) in
    let known : All (Contains pool) parts = All-weaker (Contains part) (Contains pool) (λ r in_part. (All-contains (λ y. Contains pool y × (StandsWithin pool low high y ⊎ (bit_at y.set customer ≡ 0))) part r is_part.sound in_part).0) parts reached.choice.known in
    let bits : (k : ℕ) → bit_at x.set k + visits set_in others k ≡ bit_at rest.unserved k = λ k. omega (arith, reached.choice.once k, sum_by-IsPermutation (λ (r : Route). bit_at r.set k) parts (x ∷ others) moved, sum_by-cons (λ (r : Route). bit_at r.set k) x others) in
    let within : bit_and x.set rest.unserved ≡ x.set = set_within x.set rest.unserved (λ k. omega (arith, bits k)) in
    let many : length parts ≡ length others + 1 = omega (arith, length_permutation parts (x ∷ others) moved) in
    let left = rest.trucks - 1 in
    let allowance = rest.most - x.cost in
    let few : left + 1 ≤ rest.trucks = omega (arith, many, reached.choice.few) in
    let costly = sum_by-IsPermutation (λ (r : Route). r.cost) parts (x ∷ others) moved in
    let split = sum_by-cons (λ (r : Route). r.cost) x others in
    let cheap : x.cost + allowance ≤ rest.most = omega (arith, reached.cheap, costly, split) in
    let asked : Reaches pool (bit_xor rest.unserved x.set) left allowance = record {
      parts = others;
      choice = record {
        known = All-tail (Contains pool) x others (All-permutation (Contains pool) parts (x ∷ others) moved known);
        once = λ k. omega (arith, bits k, taken_bit x.set rest.unserved k within);
        few = omega (arith, reached.choice.few, many);
      };
      cheap = omega (arith, reached.cheap, costly, split);
    } in
    elim (All-contains (λ y. Contains pool y × (StandsWithin pool low high y ⊎ (bit_at y.set customer ≡ 0))) part x is_part.sound (All-contains (Contains part) parts x reached.choice.known v.here)).1 [
      | inr lacks ↦ absurd (omega (arith, lacks, v.has))
      | inl stands ↦
          let (inside, same) = is_seen p limit stops pool stands.at task.pool_of stands.within in
          let r = get_or stops stands.at [] in
          let e : x ≡ seen p r = sym stands.is ∙ sym same in
          record {
            at = stands.at;
            below = stands.below;
            within = inside;
            on = asked_continues p limit stops pool whole task index chosen rest begun stands.at left allowance inside
                (subst (λ (y : Route). bit_and y.set rest.unserved ≡ y.set) e within)
                few
                (subst (λ (y : Route). y.cost + allowance ≤ rest.most) e cheap)
                (subst (λ (y : Route). Reaches pool (bit_xor rest.unserved y.set) left allowance) e asked);
          }
    ]

-- where a route of the pool stands, and how it is seen there
place_of : (p : Problem) (limit : ℕ) (stops : List (List ℕ)) (pool : List Route) (whole : Residual) → IsTask p limit stops pool whole → (r : List ℕ) (k : ℕ) → k < length stops → get_or stops k r ≡ r → (k < length pool) × (route_in pool k ≡ seen p r)
place_of p limit stops pool whole task r k lt is =
    let many : length pool ≡ length stops = ap length task.pool_of.is ∙ length-map stops (seen p) in
    let within : k < length pool = omega (arith, lt, many) in
    let (inside, same) = is_seen p limit stops pool k task.pool_of within in
    let other : get_or stops k [] ≡ get_or stops k r = get_or_default stops k [] r lt in
    (within, sym same ∙ ap (seen p) (other ∙ is))

-- the answer about a part is no: the next route doesn't stand between its ends, where all there have the customer
pub said_no : (p : Problem) (limit : ℕ) (stops : List (List ℕ)) (pool : List Route) (whole : Residual) (task : IsTask p limit stops pool whole)
    → (low : ℕ) (chosen : List ℕ) (rest : Residual) → IsBegun p stops task.plan whole low chosen rest
    → (customer high : ℕ) (part : List Route) → IsPart pool rest.unserved customer low high (length pool) part → AllHave pool rest.unserved customer low high
    → (Reaches part rest.unserved rest.trucks rest.most → ⊥)
    → IsBegun p stops task.plan whole high chosen rest
said_no p limit stops pool whole task low chosen rest begun customer high part is_part have never =
    let routes = routes_at stops chosen in
    let unserved = rest.unserved in
    let known = others_known p limit stops pool whole task routes begun.others begun.is in
    let inside_of : (y : List ℕ) → Contains begun.others y → bit_and (set_of y) unserved ≡ set_of y = λ y there. standing p limit stops pool whole task low chosen rest begun y there in
    let not_between : (x : List ℕ) → Contains begun.others x → (n : ℕ) → low ≤ n → n < high → n < length stops → get_or stops n x ≡ x → ⊥ = λ x here n from below lt at.
    let (within, seen_x) = place_of p limit stops pool whole task x n lt at in
    let has : bit_at (set_of x) customer ≡ 1 = subst (λ (y : Route). bit_at y.set customer ≡ 1) seen_x (have n from below within (subst (λ (y : Route). bit_and y.set unserved ≡ y.set) (sym seen_x) (inside_of x here))) in
    let (i, in_rest, is) = here in
    let others = remove begun.others i in
    let moved : IsPermutation begun.others (x ∷ others) = IsPermutation-remove begun.others i x in_rest (sym is) in
    let each = routes_known p stops begun.others task.pool_of.each known in
    let others_each : All (IsRoute p) (x ∷ others) = All-permutation (IsRoute p) begun.others (x ∷ others) moved each in
    let (lawful, price) = moved_plan p routes begun.others (x ∷ others) begun.routes others_each each moved (subst (IsLawful p) begun.is task.canonical.plan_of.lawful) in
    let all_each : All (IsRoute p) (routes ++ x ∷ others) = All-append (IsRoute p) routes (x ∷ others) begun.routes others_each in
    let alone : visits set_of others customer ≡ 0 = omega (arith, has, bit_at-lt unserved customer, begun.unserved customer, served_visited p (routes ++ x ∷ others) (are_distinct p (routes ++ x ∷ others) all_each) lawful.served customer, sum_by-append (λ y. bit_at (set_of y) customer) routes (x ∷ others), sum_by-cons (λ y. bit_at (set_of y) customer) x others) in
    let ahead : Contains part (seen p x) = subst (Contains part) seen_x (is_part.every n within within from (subst (λ (y : Route). bit_and y.set unserved ≡ y.set) (sym seen_x) (inside_of x here)) (inl below)) in
    let in_part : All (λ y. Contains part (seen p y)) others = λ k d k_lt.
    let y = get_or others k d in
    let there : Contains begun.others y = Contains-permutation (x ∷ others) begun.others y (IsPermutation-sym begun.others (x ∷ others) moved) (suc k, omega (arith, k_lt), get_or_default others k y d k_lt) in
    let (j, j_lt, j_is) = All-contains (Contains (drop low stops)) begun.others y begun.among there in
    let m_lt : low + j < length stops = omega (arith, j_lt, length-drop low stops) in
    let m_is : get_or stops (low + j) y ≡ y = sym (get_or-drop low stops j y) ∙ j_is in
    let (m_within, seen_y) = place_of p limit stops pool whole task y (low + j) m_lt m_is in
    let lacks : bit_at (set_of y) customer ≡ 0 = omega (arith, alone, get_or-le-sum_by (λ z. bit_at (set_of z) customer) others k d k_lt) in
    subst (Contains part) seen_y (is_part.every (low + j) m_within m_within (omega arith) (subst (λ (z : Route). bit_and z.set unserved ≡ z.set) (sym seen_y) (inside_of y there)) (inr (subst (λ (z : Route). bit_at z.set customer ≡ 0) (sym seen_y) lacks))) in
    let cheap : plan_cost p (routes ++ x ∷ others) ≤ whole.most = omega (arith, price, ap (plan_cost p) begun.is, task.canonical.plan_of.priced, task.cost_is) in
    let many : length routes ≡ length chosen = length-map chosen (λ at. get_or stops at []) in
    never (plan_reaches p part whole.trucks routes (x ∷ others) unserved rest.trucks rest.most whole.most task.fleet all_each begun.unserved lawful (All-cons (λ y. Contains part (seen p y)) x others ahead in_part) (omega (arith, many, begun.trucks)) cheap (omega (arith, begun.cost))) in
    record {
      routes = begun.routes;
      others = begun.others;
      is = begun.is;
      among = All-weaker (Contains begun.others) (Contains (drop high stops)) (λ x here.
          let (j, lt, is) = All-contains (Contains (drop low stops)) begun.others x begun.among here in
          let inside : low + j < length stops = omega (arith, lt, length-drop low stops) in
          let at : get_or stops (low + j) x ≡ x = sym (get_or-drop low stops j x) ∙ is in
          elim (cases_lt (low + j) high) [
            | inl below ↦ absurd (not_between x here (low + j) (omega arith) below inside at)
            | inr above ↦ (low + j - high, omega (arith, above, inside, length-drop high stops), get_or-drop high stops (low + j - high) x ∙ (let e : high + (low + j - high) ≡ low + j = omega (arith, above) in ap (λ n. get_or stops n x) e) ∙ at)
          ]) begun.others (All-contains_itself begun.others);
      unserved = begun.unserved;
      trucks = begun.trucks;
      cost = begun.cost;
    }

-- no plan goes on with an earlier route than the canonical plan
pub too_early : (p : Problem) (limit : ℕ) (stops : List (List ℕ)) (pool : List Route) (plan : PricedPlan) (routes others : List (List ℕ)) (at low most : ℕ) → IsPoolOf p limit stops pool → AllPairs IsEarlier stops → IsCanonical p plan → plan.routes ≡ routes ++ others
    → All (Contains (drop low stops)) others → at < length stops → at < low → plan.cost ≡ most → Continues p most (routes ++ get_or stops at [] ∷ []) → ⊥
too_early p limit stops pool plan routes [] at low most pool_of rising canonical is among within early cost on =
    let r = get_or stops at [] in
    let route : IsRoute p r = pool_of.each at [] within in
    none_left p routes on.others r (subst (IsLawful p) (is ∙ append-nil routes) canonical.plan_of.lawful) (subst (IsLawful p) (append_assoc routes (r ∷ []) on.others) on.lawful) route.some
too_early p limit stops pool plan routes (next ∷ others) at low most pool_of rising canonical is among within early cost on =
    let r = get_or stops at [] in
    let same = append_assoc routes (r ∷ []) on.others in
    let (j, lt, found) = among 0 next (omega arith) in
    let inside : low + j < length stops = omega (arith, lt, length-drop low stops) in
    let here : get_or stops (low + j) [] ≡ next = get_or_default stops (low + j) [] next inside ∙ sym (get_or-drop low stops j next) ∙ found in
    let route : IsRoute p next = subst (IsRoute p) here (pool_of.each (low + j) [] inside) in
    none_earlier p plan routes others on.others r next canonical is (subst (IsLawful p) same on.lawful)
    (omega (arith, on.cheap, cost, ap (plan_cost p) same))
    (All-weaker (Contains (customers p)) (λ k. 0 < k) (customer_is_some p) next route.begins.known)
    (subst (IsEarlier r) here (rising at (low + j) [] (omega (arith, early)) inside))

-- where the next route can't stand earlier and a plan goes on with a route that doesn't stand later, it goes on with this one
pub narrowed : (p : Problem) (limit : ℕ) (stops : List (List ℕ)) (pool : List Route) (whole : Residual) (task : IsTask p limit stops pool whole)
    → (low : ℕ) (chosen : List ℕ) (rest : Residual) → IsBegun p stops task.plan whole low chosen rest → GoesBelow p stops whole.most (routes_at stops chosen) (low + 1)
    → Continues p whole.most (routes_at stops chosen ++ get_or stops low [] ∷ [])
narrowed p limit stops pool whole task low chosen rest begun goes =
    elim (cases_lt goes.at low) [
      | inr from ↦ subst (λ n. Continues p whole.most (routes_at stops chosen ++ get_or stops n [] ∷ [])) (omega (arith, from, goes.below)) goes.on
      | inl early ↦ absurd (too_early p limit stops pool task.plan (routes_at stops chosen) begun.others goes.at low whole.most task.pool_of task.rising task.canonical begun.is begun.among goes.within early task.cost_is goes.on)
    ]

-- the next route is taken
pub taken_narrowed : (p : Problem) (limit : ℕ) (stops : List (List ℕ)) (pool : List Route) (whole : Residual) (task : IsTask p limit stops pool whole)
    → (index : ℕ) (chosen : List ℕ) (rest next : Residual) → IsBegun p stops task.plan whole index chosen rest → index < length pool
    → IsAfter rest (route_in pool index) next → Continues p whole.most (routes_at stops chosen ++ get_or stops index [] ∷ [])
    → IsBegun p stops task.plan whole (index + 1) (chosen ++ index ∷ []) next
taken_narrowed p limit stops pool whole task index chosen rest next begun lt after on =
    let (inside, same) = is_seen p limit stops pool index task.pool_of lt in
    taken_on p limit stops pool whole task index chosen rest next begun inside (subst (λ (x : Route). IsAfter rest x next) (sym same) after) on

-- ---- the same of the answers that the code gets

pub answered_yes : (p : Problem) (limit : ℕ) (stops : List (List ℕ)) (pool : List Route) (whole : Residual) (task : IsTask p limit stops pool whole)
    → (index : ℕ) (chosen : List ℕ) (rest : Residual) → IsBegun p stops task.plan whole index chosen rest
    → (customer low high : ℕ) (reply : Bool) → IsAnswer pool rest customer low high reply → bit_at rest.unserved customer ≡ 1 → reply ≡ true
    → GoesBelow p stops whole.most (routes_at stops chosen) high
answered_yes p limit stops pool whole task index chosen rest begun customer low high reply (part, is_part, told) here is =
    said_yes p limit stops pool whole task index chosen rest begun customer low high part is_part here (told.0 is)

pub answered_no : (p : Problem) (limit : ℕ) (stops : List (List ℕ)) (pool : List Route) (whole : Residual) (task : IsTask p limit stops pool whole)
    → (low : ℕ) (chosen : List ℕ) (rest : Residual) → IsBegun p stops task.plan whole low chosen rest
    → (customer high : ℕ) (reply : Bool) → IsAnswer pool rest customer low high reply → AllHave pool rest.unserved customer low high → reply ≡ false
    → IsBegun p stops task.plan whole high chosen rest
answered_no p limit stops pool whole task low chosen rest begun customer high reply (part, is_part, told) have is =
    said_no p limit stops pool whole task low chosen rest begun customer high part is_part have
    (λ reached. let say : reply ≡ true = told.1 reached in cc (say, is))

-- ---- a part, route by route

pub part_with : (pool : List Route) (unserved customer low high i : ℕ) (part : List Route) → i < length pool → IsPart pool unserved customer low high i part
    → ((low ≤ i) × (i < high)) ⊎ (bit_at (route_in pool i).set customer ≡ 0)
    → IsPart pool unserved customer low high (i + 1) (part ++ route_in pool i ∷ [])
part_with pool unserved customer low high i part lt is_part kept =
    let x = route_in pool i in
    let sound : StandsWithin pool low high x ⊎ (bit_at x.set customer ≡ 0) = elim kept [
      | inl both ↦ inl (record { at = i; from = both.0; below = both.1; within = lt; is = refl })
      | inr lacks ↦ inr lacks
    ] in
    record {
      sound = All-push (λ y. Contains pool y × (StandsWithin pool low high y ⊎ (bit_at y.set customer ≡ 0))) part x is_part.sound (Contains-get_or pool i (record { set = 0; cost = 0 }) lt, sound);
      every = λ k below within from inside which. elim (cases_lt k i) [
        | inl before ↦ Contains-append_left part (x ∷ []) (route_in pool k) (is_part.every k before within from inside which)
        | inr here ↦ subst (λ n. Contains (part ++ x ∷ []) (route_in pool n)) (let e : i ≡ k = omega (arith, here, below) in e) (Contains-push part x)
      ];
    }

pub part_without : (pool : List Route) (unserved customer low high i : ℕ) (part : List Route) → IsPart pool unserved customer low high i part
    → (low ≤ i → IsInside pool unserved i → (i < high) ⊎ (bit_at (route_in pool i).set customer ≡ 0) → ⊥)
    → IsPart pool unserved customer low high (i + 1) part
part_without pool unserved customer low high i part is_part never = record {
  sound = is_part.sound;
  every = λ k below within from inside which. elim (cases_lt k i) [
    | inl before ↦ is_part.every k before within from inside which
    | inr here ↦
        let e : k ≡ i = omega (arith, here, below) in
        absurd (never (subst (λ n. low ≤ n) e from) (subst (IsInside pool unserved) e inside) (subst (λ n. (n < high) ⊎ (bit_at (route_in pool n).set customer ≡ 0)) e which))
  ];
}
