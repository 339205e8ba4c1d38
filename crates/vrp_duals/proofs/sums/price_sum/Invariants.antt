use Rattle.std.proofs.Common.{◌≡◌, ◌≤◌, ◌*◌, ◌-◌, pos, ◌+ℤ◌, get_or, length, unsigned_abs}
use Rattle.std.specs.List.{range_with_len}
use Rattle.vrp_duals.specs.Duals.{int_sum_by}
use Rattle.vrp_duals.specs.declared.limits.TheConstants.{MAX_PRICE}
use Rattle.vrp_duals.proofs.sums.price_sum.Given as goal

abbrev pub invariant-loop-place : goal.invariant-loop-place
invariant-loop-place l = record {
  value : l.sum +ℤ int_sum_by (λ place. get_or l.prices place (pos 0)) (range_with_len l.place (length l.prices - l.place)) ≡ int_sum_by (λ place. get_or l.prices place (pos 0)) (range_with_len 1 (length l.prices - 1));
  small : unsigned_abs l.sum ≤ MAX_PRICE * l.place;
}
