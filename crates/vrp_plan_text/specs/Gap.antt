-- The gap of a plan: cost minus lower bound, in hundredths of a percent of the bound.
use Rattle.std.specs.Prelude.{◌≡◌, ℕ, ◌+◌, ◌*◌, ◌≤◌, Option, None, Some}

-- the lower bound, raised by this many hundredths of a percent, is at least the cost
abbrev pub Reaches : ℕ → ℕ → ℕ → Type 0
Reaches cost bound gap = cost * 10000 ≤ bound * (10000 + gap)

-- The least number that reaches the cost; none if no number does, because the lower bound is 0 and the cost isn't.
abbrev pub IsGap : ℕ → ℕ → Option ℕ → Type 0
IsGap cost bound None = (gap : ℕ) → Reaches cost bound gap → ⊥
IsGap cost bound (Some gap) = Reaches cost bound gap × ((other : ℕ) → Reaches cost bound other → gap ≤ other)

-- the gap of a cost and a lower bound; none if one of them isn't known
abbrev pub IsGapOf : Option ℕ → Option ℕ → Option ℕ → Type 0
IsGapOf (Some cost) (Some bound) gap = IsGap cost bound gap
IsGapOf (Some cost) None gap = gap ≡ None
IsGapOf None bound gap = gap ≡ None
