-- Roots rounded up, of a number and of a tenth of one.
use Rattle.std.proofs.Common.{◌≡◌, ℕ, ◌≤◌, arith}
use Rattle.vrp_model.specs.Distance.{IsCeiling, IsPseudoEuclidean}

-- no number has two ceilings
pub IsCeiling-one : (s j k : ℕ) → IsCeiling s j → IsCeiling s k → j ≡ k
IsCeiling-one s j k e f = omega (arith, e.least k f.reaches, f.least j e.reaches)

pub IsCeiling-zero : IsCeiling 0 0
IsCeiling-zero = record {
  reaches = omega arith;
  least = λ j h. omega arith;
}

pub IsCeiling-small : (s k : ℕ) → IsCeiling s k → s ≤ 80000000000000000 → k ≤ 282842713
IsCeiling-small s k e h = e.least 282842713 (omega arith)

pub IsPseudoEuclidean-one : (s j k : ℕ) → IsPseudoEuclidean s j → IsPseudoEuclidean s k → j ≡ k
IsPseudoEuclidean-one s j k e f = omega (arith, e.least k f.reaches, f.least j e.reaches)

pub IsPseudoEuclidean-zero : IsPseudoEuclidean 0 0
IsPseudoEuclidean-zero = record {
  reaches = omega arith;
  least = λ j h. omega arith;
}

pub IsPseudoEuclidean-small : (s k : ℕ) → IsPseudoEuclidean s k → s ≤ 80000000000000000 → k ≤ 89442720
IsPseudoEuclidean-small s k e h = e.least 89442720 (omega arith)
