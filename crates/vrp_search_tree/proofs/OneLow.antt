-- What a word under a prefix costs at least is one number: two answers that fit the definition are equal.
use Rattle.std.proofs.Common.{◌≡◌, ◌∙◌, ℕ, ◌+◌, ◌*◌, ◌≤◌, ◌⊎◌, inl, inr, Option, Some, None, List, [], ◌∷◌, max, refl, sym, ap, subst, arith}
use Rattle.std.specs.Prelude.{MatchOption}
use Rattle.std.specs.List.{All, sum_by}
use Rattle.std.specs.Option.{option_map}
use Rattle.std.proofs.lemmas.Bool.{cases_eq, cases_lt}
use Rattle.std.proofs.lemmas.List.Elements.{All-tail}
use Rattle.std.proofs.lemmas.List.Sums.{sum_by-cons}
use Rattle.vrp_bound.specs.Bound.{IsGreater, IsLowerBound}
use Rattle.vrp_bound.specs.Capacity.{CanCarry, IsCapacityBound, IsInboundSumOf, IsReturns, free_room}
use Rattle.vrp_bound.specs.Tables.{AreMade, IsBound}
use Rattle.vrp_bound.specs.Walk.{IsLeastRelaxed, NoneRelaxed}
use Rattle.vrp_model.specs.LeastArc.{IsLeastHome, IsLeastIn}
use Rattle.vrp_model.specs.Prefix.{open_load, routes_left}
use Rattle.vrp_model.specs.Problem.{IsProblem, Problem, place_count}
use Rattle.vrp_model.specs.Route.{load_of}
use Rattle.vrp_model.specs.Word.{last_symbol, unserved_in, word_cost}
use Rattle.vrp_search_tree.specs.Low.{IsLow}

-- ---- least arcs

one_least_in : (p : Problem) (to weight other : ℕ) → IsLeastIn p to weight → IsLeastIn p to other → weight ≡ other
one_least_in p to weight other is also =
    let (from, within, differs, met) = is.met in
    let (start, inside, apart, reached) = also.met in
    omega (arith, met, reached, is.least start inside apart, also.least from within differs)

one_least_home : (p : Problem) (weight other : ℕ) → IsProblem p → IsLeastHome p weight → IsLeastHome p other → weight ≡ other
one_least_home p weight other problem is also = elim (cases_lt 1 (place_count p)) [
  | inl many ↦ one_least_in p 0 weight other (is.some many) (also.some many)
  | inr alone ↦
      let one : place_count p ≡ 1 = omega (arith, alone, problem.some_places) in
      is.none one ∙ sym (also.none one)
]

-- functions that have the same values at the elements of a list have the same sum
one_sum : (P : ℕ → ℕ → Type 0) (f g : ℕ → ℕ) (xs : List ℕ) → ((x a b : ℕ) → P x a → P x b → a ≡ b) → All (λ x. P x (f x)) xs → All (λ x. P x (g x)) xs → sum_by f xs ≡ sum_by g xs
one_sum P f g [] one fs gs = refl
one_sum P f g (x ∷ xs) one fs gs =
    let rest = one_sum P f g xs one (All-tail (λ y. P y (f y)) x xs fs) (All-tail (λ y. P y (g y)) x xs gs) in
    let here : f x ≡ g x = one x (f x) (g x) (fs 0 x (omega arith)) (gs 0 x (omega arith)) in
    omega (arith, sum_by-cons f x xs, sum_by-cons g x xs, here, rest)

pub one_inbound_sum : (p : Problem) (word : List ℕ) (inbound_sum other : ℕ) → IsInboundSumOf p word inbound_sum → IsInboundSumOf p word other → inbound_sum ≡ other
one_inbound_sum p word inbound_sum other is also = is.whole ∙ one_sum (IsLeastIn p) is.least_in also.least_in (unserved_in p word) (one_least_in p) is.each also.each ∙ sym also.whole

-- ---- the capacity bound

one_returns : (p : Problem) (at load rest returns other : ℕ) → IsReturns p at load rest returns → IsReturns p at load rest other → returns ≡ other
one_returns p at load rest returns other is also =
    let trucks : is.trucks ≡ also.trucks = omega (arith, is.carry.least also.trucks also.carry.enough, also.carry.least is.trucks is.carry.enough) in
    cc (is.all, also.all, trucks)

pub one_capacity : (p : Problem) (at load inbound_sum rest bound other : ℕ) → IsProblem p → IsCapacityBound p at load inbound_sum rest bound → IsCapacityBound p at load inbound_sum rest other → bound ≡ other
one_capacity p at load inbound_sum rest bound other problem is also =
    cc (is.is, also.is, one_returns p at load rest is.returns also.returns is.count also.count, one_least_home p is.home also.home problem is.least_home also.least_home)

-- ---- the tables

one_relaxed : (p : Problem) (among : List ℕ) (at load rest : ℕ) (answer other : Option ℕ) → MatchOption answer (NoneRelaxed p among at load rest) (IsLeastRelaxed p among at load rest)
    → MatchOption other (NoneRelaxed p among at load rest) (IsLeastRelaxed p among at load rest) → answer ≡ other
one_relaxed p among at load rest None None none also = refl
one_relaxed p among at load rest None (Some cost) none least = let (home, tours, relaxed, costs) = least.met in absurd (none home tours relaxed)
one_relaxed p among at load rest (Some cost) None least none = let (home, tours, relaxed, costs) = least.met in absurd (none home tours relaxed)
one_relaxed p among at load rest (Some cost) (Some other) least also =
    let (home, tours, relaxed, costs) = least.met in
    let (home_too, tours_too, relaxed_too, costs_too) = also.met in
    let same : cost ≡ other = omega (arith, costs, costs_too, least.least home_too tours_too relaxed_too, also.least home tours relaxed) in
    ap Some same

same_or_not : (answer other : Option ℕ) → (answer ≡ other) ⊎ (answer ≡ other → ⊥)
same_or_not None None = inl refl
same_or_not None (Some b) = inr (λ same. cc)
same_or_not (Some a) None = inr (λ same. cc)
same_or_not (Some a) (Some b) = elim (cases_eq a b) [
  | inl same ↦ inl (ap Some same)
  | inr differ ↦ inr (λ same. differ (cc))
]

-- Whether tables are made need not be decided: were the answers different, then none could be made, and both would be 0.
one_bound : (p : Problem) (among : List ℕ) (at load rest : ℕ) (answer other : Option ℕ) → IsBound p among at load rest answer → IsBound p among at load rest other → answer ≡ other
one_bound p among at load rest answer other is also = elim (same_or_not answer other) [
  | inl same ↦ same
  | inr differ ↦
      let none : AreMade p among → ⊥ = λ made. differ (one_relaxed p among at load rest answer other (is.made made) (also.made made)) in
      absurd (differ (is.none_made none ∙ sym (also.none_made none)))
]

-- ---- both

one_greater : (p : Problem) (among : List ℕ) (at load inbound_sum rest : ℕ) (answer other : Option ℕ) → IsProblem p → IsGreater p among at load inbound_sum rest answer → IsGreater p among at load inbound_sum rest other → answer ≡ other
one_greater p among at load inbound_sum rest answer other problem is also =
    let relaxed = one_bound p among at load rest is.relaxed also.relaxed is.is_bound also.is_bound in
    let capacity = one_capacity p at load inbound_sum rest is.capacity also.capacity problem is.is_capacity also.is_capacity in
    is.greater ∙ ap (λ n. option_map (λ least. max least n) is.relaxed) capacity ∙ ap (option_map (λ least. max least also.capacity)) relaxed ∙ sym also.greater

pub can_or_not : (p : Problem) (at load rest : ℕ) (left : Option ℕ) → CanCarry p at load rest left ⊎ (CanCarry p at load rest left → ⊥)
can_or_not p at load rest None = inl (λ trucks is. absurd (cc))
can_or_not p at load rest (Some trucks) = elim (cases_lt (free_room p at load + trucks * p.capacity) rest) [
  | inl above ↦ inr (λ may. omega (arith, above, may trucks refl))
  | inr within ↦ inl (λ other is. let same : trucks ≡ other = cc in subst (λ n. rest ≤ free_room p at load + n * p.capacity) same within)
]

one_lower_bound : (p : Problem) (among : List ℕ) (at load inbound_sum rest : ℕ) (left answer other : Option ℕ) → IsProblem p → IsLowerBound p among at load inbound_sum rest left answer → IsLowerBound p among at load inbound_sum rest left other → answer ≡ other
one_lower_bound p among at load inbound_sum rest left answer other problem is also = elim (can_or_not p at load rest left) [
  | inl may ↦ one_greater p among at load inbound_sum rest answer other problem (is.enough may) (also.enough may)
  | inr may_not ↦ is.too_few may_not ∙ sym (also.too_few may_not)
]

pub one_low : (p : Problem) (among prefix : List ℕ) (low other : Option ℕ) → IsProblem p → IsLow p among prefix low → IsLow p among prefix other → low ≡ other
one_low p among prefix low other problem is also =
    let at = last_symbol prefix in
    let load = open_load p prefix in
    let rest = load_of p (unserved_in p prefix) in
    let inbound_sum = one_inbound_sum p prefix is.inbound_sum also.inbound_sum is.is_inbound_sum also.is_inbound_sum in
    let bound = one_lower_bound p among at load also.inbound_sum rest (routes_left p prefix) is.bound also.bound problem (subst (λ n. IsLowerBound p among at load n rest (routes_left p prefix) is.bound) inbound_sum is.is_bound) also.is_bound in
    is.whole ∙ ap (option_map (λ more. word_cost p prefix + more)) bound ∙ sym also.whole
