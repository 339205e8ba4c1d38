-- The least of some costs, found by looking at them one after another.
use Rattle.std.proofs.Common.{◌≡◌, ℕ, ◌+◌, ◌<◌, ◌≤◌, min, inl, inr, refl, subst, arith}
use Rattle.std.proofs.lemmas.Bool.{cases_lt}
use Rattle.vrp_bound.specs.Inner.CompletionCells.{IsLeastCell, mark}

-- a cost of one of the first arcs
pub record IsCostBelow (IsCost : ℕ → ℕ → Type 0) (arcs cost : ℕ) : Type 0 where
  pub arc : ℕ
  pub below : arc < arcs
  pub has : IsCost arc cost

-- a sum of two costs
pub record IsSum (IsFirst IsSecond : ℕ → Type 0) (cost : ℕ) : Type 0 where
  pub first : ℕ
  pub second : ℕ
  pub has_first : IsFirst first
  pub has_second : IsSecond second
  pub whole : cost ≡ first + second

-- nothing looked at
pub least_none : (IsCost : ℕ → ℕ → Type 0) (arcs : ℕ) → ((arc cost : ℕ) → arc < arcs → IsCost arc cost → ⊥) → IsLeastCell (IsCostBelow IsCost arcs) mark
least_none IsCost arcs none = record {
  met = λ small. absurd (omega (arith, small));
  least = λ cost has. absurd (none has.arc cost has.below has.has);
}

-- the arc has no cost
pub least_skipped : (IsCost : ℕ → ℕ → Type 0) (arcs best : ℕ) → IsLeastCell (IsCostBelow IsCost arcs) best → ((cost : ℕ) → IsCost arcs cost → ⊥) → IsLeastCell (IsCostBelow IsCost (arcs + 1)) best
least_skipped IsCost arcs best least none = record {
  met = λ small. let has = least.met small in record { arc = has.arc; below = omega (arith, has.below); has = has.has };
  least = λ cost has. elim (cases_lt has.arc arcs) [
    | inl before ↦ least.least cost (record { arc = has.arc; below = before; has = has.has })
    | inr behind ↦ let last : has.arc ≡ arcs = omega (arith, behind, has.below) in absurd (none cost (subst (λ arc. IsCost arc cost) last has.has))
  ];
}

-- the least so far, or the least of the arc that was looked at
pub least_more : (IsCost : ℕ → ℕ → Type 0) (arcs best cell : ℕ) → IsLeastCell (IsCostBelow IsCost arcs) best → IsLeastCell (IsCost arcs) cell → IsLeastCell (IsCostBelow IsCost (arcs + 1)) (min best cell)
least_more IsCost arcs best cell least here = record {
  met = λ small. elim (cases_lt cell best) [
    | inl less ↦
        let is : cell ≡ min best cell = omega arith in
        subst (IsCostBelow IsCost (arcs + 1)) is (record { arc = arcs; below = omega arith; has = here.met (omega arith) })
    | inr more ↦
        let is : best ≡ min best cell = omega arith in
        let has = least.met (omega arith) in
        subst (IsCostBelow IsCost (arcs + 1)) is (record { arc = has.arc; below = omega (arith, has.below); has = has.has })
  ];
  least = λ cost has. elim (cases_lt has.arc arcs) [
    | inl before ↦ let low : best ≤ cost = least.least cost (record { arc = has.arc; below = before; has = has.has }) in omega (arith, low)
    | inr behind ↦
        let last : has.arc ≡ arcs = omega (arith, behind, has.below) in
        let low : cell ≤ cost = here.least cost (subst (λ arc. IsCost arc cost) last has.has) in
        omega (arith, low)
  ];
}

-- the same costs
pub least_same : (IsCost IsOther : ℕ → Type 0) (cell : ℕ) → ((cost : ℕ) → IsCost cost → IsOther cost) → ((cost : ℕ) → IsOther cost → IsCost cost) → IsLeastCell IsCost cell → IsLeastCell IsOther cell
least_same IsCost IsOther cell to from least = record {
  met = λ small. to cell (least.met small);
  least = λ cost has. least.least cost (from cost has);
}

-- the only cost
pub least_one : (cost : ℕ) → IsLeastCell (λ other. other ≡ cost) cost
least_one cost = record { met = λ small. refl; least = λ other is. omega (arith, is) }

pub least_sum : (IsFirst IsSecond : ℕ → Type 0) (first second : ℕ) → IsLeastCell IsFirst first → IsLeastCell IsSecond second → IsLeastCell (IsSum IsFirst IsSecond) (first + second)
least_sum IsFirst IsSecond first second least_first least_second = record {
  met = λ small. record {
    first = first;
    second = second;
    has_first = least_first.met (omega (arith, small));
    has_second = least_second.met (omega (arith, small));
    whole = refl;
  };
  least = λ cost has. omega (arith, has.whole, least_first.least has.first has.has_first, least_second.least has.second has.has_second);
}
