use Rattle.std.proofs.Common.{ℕ, ◌≡◌, ◌<◌, ◌≤◌, ◌^◌, ◌*◌, ◌+◌, ℤ, pos, ◌+ℤ◌, ◌-ℤ◌, arith, refl, ap, ◌∙◌, to_z, of_z, unsigned_abs, w64}
use Rattle.std.proofs.lemmas.Int.{ints}
use Rattle.vrp_partition.specs.Prices.{Prices, dual_sum, charges, rewards, reduced_cost_of}
use Rattle.vrp_partition.specs.declared.prices.TheConstants.{SCALE}
use Rattle.vrp_partition.proofs.prices.Prices.reduced_cost.Goals as goal

computed : (n p t r : ℕ) (e : ℤ) → n < 2 ^ 32 → p ≤ 2 ^ 59 → t ≤ 2 ^ 50 → r ≤ 2 ^ 59 → unsigned_abs e ≤ 2 ^ 60
    → to_z w64 (of_z w64 (to_z w64 (of_z w64 (to_z w64 (of_z w64 (to_z w64 (of_z w64 (to_z w64 (1048576 * n) +ℤ to_z w64 p)) +ℤ to_z w64 t)) -ℤ to_z w64 (of_z w64 e))) -ℤ to_z w64 r)) ≡ pos (1048576 * n + p + t) -ℤ e -ℤ pos r
computed n p t r e cost few truck rare small = omega (arith, ints)

by_parts : (prices : Prices) (set cost n p t r : ℕ) (e : ℤ) → n ≡ cost → p ≡ charges prices.subset_rows set → t ≡ prices.truck_price → r ≡ rewards prices.capacity_cuts set → e ≡ dual_sum prices.duals set
    → pos (1048576 * n + p + t) -ℤ e -ℤ pos r ≡ reduced_cost_of prices SCALE (record { set = set; cost = cost })
by_parts prices set cost n p t r e a b g d f = rw (a, b, g, d, f) refl

pub returns : goal.returns
returns c =
    computed c.from.result c.charged-charged.result c.self.inside.truck_price c.rewarded-rewarded.result c.dual_sum_of-dual_sum.result (omega arith) c.charged-charged.ensures.small c.self.invariant.truck c.rewarded-rewarded.ensures.small c.dual_sum_of-dual_sum.ensures.small
    ∙ by_parts c.args.self.now c.args.set c.args.cost c.from.result c.charged-charged.result c.self.inside.truck_price c.rewarded-rewarded.result c.dual_sum_of-dual_sum.result
    c.from.ensures
    c.charged-charged.ensures.value
    (ap (λ (v : Prices). v.truck_price) c.self.view_is)
    c.rewarded-rewarded.ensures.value
    (c.dual_sum_of-dual_sum.ensures.value ∙ ap (λ ys. dual_sum ys c.args.set) (c.as_slice.ensures.value ∙ ap (λ (v : Prices). v.duals) c.self.view_is))
