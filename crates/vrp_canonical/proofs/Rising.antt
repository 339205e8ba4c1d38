-- Routes whose stops rise from each to the next.
use Rattle.std.proofs.Common.{◌≡◌, ℕ, zero, suc, ◌+◌, ◌-◌, ◌<◌, ◌≤◌, inl, inr, List, [], ◌∷◌, get_or, length, map, sym, ap, subst, ◌∙◌, arith}
use Rattle.std.specs.List.{AllPairs}
use Rattle.std.proofs.lemmas.Bool.{cases_lt}
use Rattle.std.proofs.lemmas.List.{get_or-map, get_or_default, length-map}
use Rattle.vrp_canonical.specs.Ordering.{stops_of}
use Rattle.vrp_canonical.specs.declared.ordered.ListedRoute.{ListedRoute}
use Rattle.vrp_model.specs.Order.{IsEarlier}
use Rattle.vrp_model.proofs.Ordered.{earlier_transitive}

-- each is earlier than the next
abbrev pub EachEarlier : List ListedRoute → ℕ → Type 0
EachEarlier listed count = (k : ℕ) (d e : ListedRoute) → k + 1 < count → IsEarlier (stops_of (get_or listed k d)) (stops_of (get_or listed (k + 1) e))

far_earlier : (listed : List ListedRoute) (i n : ℕ) (d : ListedRoute) → EachEarlier listed (length listed) → i + n + 1 < length listed → IsEarlier (stops_of (get_or listed i d)) (stops_of (get_or listed (i + n + 1) d))
far_earlier listed i zero d each lt =
    let e : i + 1 ≡ i + 0 + 1 = omega arith in
    subst (λ k. IsEarlier (stops_of (get_or listed i d)) (stops_of (get_or listed k d))) e (each i d d (omega (arith, lt)))
far_earlier listed i (suc n) d each lt =
    let near = far_earlier listed i n d each (omega (arith, lt)) in
    let e : i + n + 1 + 1 ≡ i + suc n + 1 = omega arith in
    subst (λ k. IsEarlier (stops_of (get_or listed i d)) (stops_of (get_or listed k d))) e
    (earlier_transitive (stops_of (get_or listed i d)) (stops_of (get_or listed (i + n + 1) d)) (stops_of (get_or listed (i + n + 1 + 1) d)) near (each (i + n + 1) d d (omega (arith, lt))))

some_route : (listed : List ListedRoute) (k : ℕ) → k < length listed → ListedRoute
some_route [] k lt = absurd (omega (arith, lt))
some_route (route ∷ listed) k lt = route

pub all_earlier : (listed : List ListedRoute) → EachEarlier listed (length listed) → AllPairs IsEarlier (map stops_of listed)
all_earlier listed each = λ i j d below lt.
    let within : j < length listed = omega (arith, lt, length-map listed stops_of) in
    let e = some_route listed j within in
    let same : i + (j - i - 1) + 1 ≡ j = omega (arith, below) in
    let early = subst (λ n. IsEarlier (stops_of (get_or listed i e)) (stops_of (get_or listed n e))) same (far_earlier listed i (j - i - 1) e each (omega (arith, below, within))) in
    let one : get_or (map stops_of listed) i d ≡ stops_of (get_or listed i e) = get_or-map stops_of listed i e d (omega (arith, below, within)) in
    let two : get_or (map stops_of listed) j d ≡ stops_of (get_or listed j e) = get_or-map stops_of listed j e d within in
    subst (λ xs. IsEarlier xs (get_or (map stops_of listed) j d)) (sym one) (subst (λ xs. IsEarlier (stops_of (get_or listed i e)) xs) (sym two) early)

pub one_earlier : (listed : List ListedRoute) (index : ℕ) (before route : ListedRoute) → 1 ≤ index → index < length listed → EachEarlier listed index
    → before ≡ get_or listed (index - 1) before → route ≡ get_or listed index route → IsEarlier (stops_of before) (stops_of route) → EachEarlier listed (index + 1)
one_earlier listed index before route some lt each here next early = λ k d e below. elim (cases_lt (k + 1) index) [
  | inl less ↦ each k d e less
  | inr last ↦
      let same : k + 1 ≡ index = omega (arith, below, last) in
      let at : index - 1 ≡ k = omega (arith, same) in
      let one : before ≡ get_or listed k d = here ∙ get_or_default listed (index - 1) before d (omega (arith, lt)) ∙ ap (λ n. get_or listed n d) at in
      let two : route ≡ get_or listed (k + 1) e = next ∙ get_or_default listed index route e lt ∙ ap (λ n. get_or listed n e) (sym same) in
      subst (λ r. IsEarlier (stops_of r) (stops_of (get_or listed (k + 1) e))) one (subst (λ r. IsEarlier (stops_of before) (stops_of r)) two early)
]
