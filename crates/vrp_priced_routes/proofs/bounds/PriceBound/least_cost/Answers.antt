use Rattle.std.proofs.Common.{rules, to_z, of_z, w64, ◌≡◌, ◌⊎◌, ◌≤◌, ◌<◌, ◌+◌, ◌*◌, ◌-ℤ◌, ◌≤ℤ◌, ℕ, ℤ, pos, ap, sym, subst, ◌∙◌, arith, inl, inr}
use Rattle.std.specs.Int.{div_ceil, w128}
use Rattle.std.proofs.lemmas.Grind.{div_ceil_times}
use Rattle.std.proofs.lemmas.Int.{ints}
use Rattle.vrp_duals.proofs.ArcSteps.{same_z}
use Rattle.vrp_priced_routes.proofs.PassSteps.{whole_units}
use Rattle.vrp_priced_routes.proofs.bounds.PriceBound.least_cost.Goals as goal

-- what the bound has above the loss is at most what the plan costs
below : (low loss x y : ℤ) (whole scaled lost : ℕ) → x ≡ low → y ≡ loss → loss ≡ pos lost → (whole ≡ 0) ⊎ (pos whole ≡ (x -ℤ y)) → low ≤ℤ pos (scaled + lost) → whole ≤ scaled
below low loss x y whole scaled lost one two is (inl none) le = omega (arith, none)
below low loss x y whole scaled lost one two is (inr more) le = omega (arith, ints)

pub returns : goal.returns
returns c = record {
  bound = λ cost le.
      let scale = c.args.self.now.scale in
      let low : to_z w64 (of_z w64 c.args.self.now.low) ≡ c.args.self.now.low = same_z c.args.self.now.low (omega (arith, c.requires.low)) in
      let loss : to_z w128 (of_z w128 c.times-loss.result) ≡ c.times-loss.result = search (rules, ints) in
      let whole = below c.args.self.now.low c.times-loss.result _ _ c.above.result (scale * cost) (c.args.self.now.customers * c.args.depth) low loss (c.times-loss.ensures.value ∙ ap (λ n. pos (n * c.args.depth)) c.from.ensures) c.above.ensures le in
      let bounds = div_ceil_times c.above.result scale (omega (arith, c.requires.some_scale)) in
      whole_units c.above.result scale cost c.div_ceil.result whole
      (subst (λ n. n * scale < c.above.result + scale) (sym (c.div_ceil.ensures ∙ ap (div_ceil c.above.result) c.from-2.ensures)) bounds.1);
}
