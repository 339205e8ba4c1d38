-- The next route of the canonical plan.
use Rattle.std.proofs.Common.{◌≡◌, ◌≢◌, ℕ, zero, suc, ◌+◌, ◌<◌, ◌≤◌, ◌⊎◌, inl, inr, List, [], ◌∷◌, ◌++◌, length, length-append, get_or, refl, sym, ap, subst, ◌∙◌, append_assoc, append-nil, arith}
use Rattle.std.specs.List.{All, Contains, concat}
use Rattle.std.proofs.lemmas.Bool.{cases_lt}
use Rattle.std.proofs.lemmas.List.Elements.{All-contains, All-tail, All-weaker, Contains-get_or}
use Rattle.std.proofs.lemmas.List.Folds.{concat-append}
use Rattle.std.proofs.lemmas.List.Sorted.{length_permutation}
use Rattle.std.proofs.lemmas.Nat.Bits.{bit_at-lt}
use Rattle.vrp_canonical.specs.Reaching.{Continues, IsRoute}
use Rattle.vrp_canonical.proofs.Counted.{bits_are, times, times_append, times_moved, here_once}
use Rattle.vrp_model.specs.Order.{IsEarlier, IsCanonical}
use Rattle.vrp_model.specs.Problem.{Problem, customers}
use Rattle.vrp_model.specs.Route.{IsLawful, PricedPlan, plan_cost}
use Rattle.vrp_model.specs.Word.{word_of}
use Rattle.vrp_model.proofs.CustomerPlaces.{customer_is_some}
use Rattle.vrp_model.proofs.DistinctLists.{customers_distinct}
use Rattle.vrp_model.proofs.Ordered.{earlier_behind, earlier_total}
use Rattle.vrp_model.proofs.Words.{word_of-append}
use Rattle.vrp_model.specs.CustomerSet.{set_of}

-- of two routes with a 0 behind them the earlier is earlier, whatever follows, also where it is the beginning of the other
closed_earlier : (r next : List ℕ) (more rest : List ℕ) → All (λ k. 0 < k) next → IsEarlier r next → IsEarlier ((r ++ 0 ∷ []) ++ more) ((next ++ 0 ∷ []) ++ rest)
closed_earlier [] [] more rest some earlier = absurd earlier
closed_earlier [] (k ∷ next) more rest some earlier = inl (some 0 k (omega arith))
closed_earlier (j ∷ r) [] more rest some earlier = absurd earlier
closed_earlier (j ∷ r) (k ∷ next) more rest some (inl less) = inl less
closed_earlier (j ∷ r) (k ∷ next) more rest some (inr (same, earlier)) = inr (same, closed_earlier r next more rest (All-tail (λ k. 0 < k) k next some) earlier)

pub first_or_later : {X : Type 0} (x y : X) (xs : List X) → Contains (x ∷ xs) y → (x ≡ y) ⊎ Contains xs y
first_or_later x y xs (zero, lt, is) = inl is
first_or_later x y xs (suc k, lt, is) = inr (k, omega (arith, lt), is)

-- a stop of a route is counted in a list that has the route
counted : (k : ℕ) (r : List ℕ) (routes : List (List ℕ)) → Contains routes r → times k r ≤ times k (concat routes)
counted k r [] (i, lt, is) = absurd (omega (arith, lt))
counted k r (x ∷ routes) (zero, lt, is) = let same : times k x ≡ times k r = ap (times k) is in omega (arith, same, times_append k x (concat routes))
counted k r (x ∷ routes) (suc i, lt, is) = omega (arith, counted k r routes (i, omega (arith, lt), is), times_append k x (concat routes))

-- a route stands in a plan only once
not_twice : (p : Problem) (before after : List (List ℕ)) (r : List ℕ) → IsLawful p (before ++ r ∷ after) → r ≢ [] → Contains after r → ⊥
not_twice p before after [] lawful some again = some refl
not_twice p before after (k ∷ r) lawful some again =
    let all : times k (customers p) ≡ times k (concat (before ++ (k ∷ r) ∷ after)) = times_moved k (concat (before ++ (k ∷ r) ∷ after)) (customers p) lawful.served in
    let parts : times k (concat (before ++ (k ∷ r) ∷ after)) ≡ times k (concat before) + times k ((k ∷ r) ++ concat after) = ap (times k) (concat-append before ((k ∷ r) ∷ after)) ∙ times_append k (concat before) ((k ∷ r) ++ concat after) in
    omega (arith, all, parts, times_append k (k ∷ r) (concat after), here_once k r, counted k (k ∷ r) after again, bits_are (customers p) k (customers_distinct p), bit_at-lt (set_of (customers p)) k)

-- a route in a plan with those that serve all alone
pub none_left : (p : Problem) (chosen others : List (List ℕ)) (r : List ℕ) → IsLawful p chosen → IsLawful p (chosen ++ r ∷ others) → r ≢ [] → ⊥
none_left p chosen others [] lawful also some = some refl
none_left p chosen others (k ∷ r) lawful also some =
    let one : length (customers p) ≡ length (concat chosen) = length_permutation (concat chosen) (customers p) lawful.served in
    let other : length (customers p) ≡ length (concat (chosen ++ (k ∷ r) ∷ others)) = length_permutation (concat (chosen ++ (k ∷ r) ∷ others)) (customers p) also.served in
    let parts : length (concat (chosen ++ (k ∷ r) ∷ others)) ≡ length (concat chosen) + length ((k ∷ r) ++ concat others) = ap length (concat-append chosen ((k ∷ r) ∷ others)) ∙ length-append (concat chosen) ((k ∷ r) ++ concat others) in
    omega (arith, one, other, parts, length-append (k ∷ r) (concat others))

-- a plan that costs no more doesn't go on with an earlier route
pub none_earlier : (p : Problem) (plan : PricedPlan) (chosen rest others : List (List ℕ)) (r next : List ℕ) → IsCanonical p plan → plan.routes ≡ chosen ++ next ∷ rest
    → IsLawful p (chosen ++ r ∷ others) → plan_cost p (chosen ++ r ∷ others) ≤ plan.cost → All (λ k. 0 < k) next → IsEarlier r next → ⊥
none_earlier p plan chosen rest others r next canonical is lawful cheap some earlier =
    let routes = chosen ++ r ∷ others in
    let other : PricedPlan = record { routes = routes; cost = plan_cost p routes } in
    let none = canonical.none_before other (record { lawful = lawful; priced = refl }) in
    let one = word_of-append chosen (r ∷ others) in
    let two = ap word_of is ∙ word_of-append chosen (next ∷ rest) in
    let words : IsEarlier (word_of routes) (word_of plan.routes) = rw (one, two) (earlier_behind (word_of chosen) (word_of (r ∷ others)) (word_of (next ∷ rest)) (closed_earlier r next (word_of others) (word_of rest) some earlier)) in
    elim (cases_lt (plan_cost p routes) plan.cost) [
      | inl less ↦ none (inl less)
      | inr most ↦ none (inr (omega (arith, most, cheap), words))
    ]

pub next_is : (p : Problem) (plan : PricedPlan) (chosen rest later : List (List ℕ)) (r : List ℕ)
    → IsCanonical p plan → plan.routes ≡ chosen ++ rest
    → All (Contains (r ∷ later)) rest → All (IsEarlier r) later → All (IsRoute p) (r ∷ later)
    → Continues p plan.cost (chosen ++ r ∷ [])
    → (others : List (List ℕ)) × (rest ≡ r ∷ others) × All (Contains later) others
next_is p plan chosen [] later r canonical is among earlier routes on =
    let lawful : IsLawful p chosen = subst (IsLawful p) (is ∙ append-nil chosen) canonical.plan_of.lawful in
    let also : IsLawful p (chosen ++ r ∷ on.others) = subst (IsLawful p) (append_assoc chosen (r ∷ []) on.others) on.lawful in
    absurd (none_left p chosen on.others r lawful also (let here = routes 0 r (omega arith) in here.some))
next_is p plan chosen (next ∷ rest) later r canonical is among earlier routes on =
    let same = append_assoc chosen (r ∷ []) on.others in
    let lawful : IsLawful p (chosen ++ r ∷ on.others) = subst (IsLawful p) same on.lawful in
    let cheap : plan_cost p (chosen ++ r ∷ on.others) ≤ plan.cost = subst (λ (rs : List (List ℕ)). plan_cost p rs ≤ plan.cost) same on.cheap in
    elim (first_or_later r next later (among 0 next (omega arith))) [
      | inl here ↦
          let is_r : plan.routes ≡ chosen ++ r ∷ rest = is ∙ ap (λ (x : List ℕ). chosen ++ x ∷ rest) (sym here) in
          let whole : IsLawful p (chosen ++ r ∷ rest) = subst (IsLawful p) is_r canonical.plan_of.lawful in
          let some : r ≢ [] = (let route = routes 0 r (omega arith) in route.some) in (
            rest,
            ap (λ (x : List ℕ). x ∷ rest) (sym here),
            λ k d lt. elim (first_or_later r (get_or rest k d) later (among (suc k) d (omega arith))) [
              | inl again ↦ absurd (not_twice p chosen rest r whole some (subst (Contains rest) (sym again) (Contains-get_or rest k d lt)))
              | inr behind ↦ behind
            ],
          )
      | inr behind ↦
          let route : IsRoute p next = All-contains (IsRoute p) later next (All-tail (IsRoute p) r later routes) behind in
          let some : All (λ k. 0 < k) next = All-weaker (Contains (customers p)) (λ k. 0 < k) (customer_is_some p) next route.begins.known in
          absurd (none_earlier p plan chosen rest on.others r next canonical is lawful cheap some (All-contains (IsEarlier r) later next earlier behind))
    ]

-- the earliest route of the pool with which a plan that costs no more goes on is the next one
pub earliest_next : (p : Problem) (plan : PricedPlan) (stops chosen rest : List (List ℕ)) (r : List ℕ)
    → IsCanonical p plan → plan.routes ≡ chosen ++ rest → All (Contains stops) rest → All (IsRoute p) stops → r ≢ []
    → Continues p plan.cost (chosen ++ r ∷ [])
    → ((s : List ℕ) → Contains stops s → IsEarlier s r → Continues p plan.cost (chosen ++ s ∷ []) → ⊥)
    → (others : List (List ℕ)) × (rest ≡ r ∷ others)
earliest_next p plan stops chosen [] r canonical is known routes some on none =
    absurd (none_left p chosen on.others r (subst (IsLawful p) (is ∙ append-nil chosen) canonical.plan_of.lawful) (subst (IsLawful p) (append_assoc chosen (r ∷ []) on.others) on.lawful) some)
earliest_next p plan stops chosen (next ∷ rest) r canonical is known routes some on none =
    let same = append_assoc chosen (r ∷ []) on.others in
    let stands : Contains stops next = known 0 next (omega arith) in
    let route : IsRoute p next = All-contains (IsRoute p) stops next routes stands in
    let back : chosen ++ next ∷ rest ≡ (chosen ++ next ∷ []) ++ rest = sym (append_assoc chosen (next ∷ []) rest) in
    elim (earlier_total r next) [
      | inl earlier ↦ absurd (none_earlier p plan chosen rest on.others r next canonical is (subst (IsLawful p) same on.lawful) (omega (arith, on.cheap, ap (plan_cost p) same)) (All-weaker (Contains (customers p)) (λ k. 0 < k) (customer_is_some p) next route.begins.known) earlier)
      | inr (inl level) ↦ (rest, ap (λ (x : List ℕ). x ∷ rest) (sym level))
      | inr (inr later) ↦ absurd (none next stands later (record { others = rest; lawful = subst (IsLawful p) (is ∙ back) canonical.plan_of.lawful; cheap = omega (arith, canonical.plan_of.priced, ap (plan_cost p) (is ∙ back)) }))
    ]
