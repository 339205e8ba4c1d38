-- Valid prices are moderate: a price that is too high, or a rebate, makes the arc from the depot too cheap.
use Rattle.std.proofs.Common.{◌≡◌, ◌⊎◌, ℕ, zero, suc, ◌+◌, ◌*◌, ◌≤◌, ◌<◌, ℤ, pos, negsuc, inl, inr, Bool, true, false, List, refl, sym, ◌∙◌, arith}
use Rattle.std.specs.Prelude.{slice_index_or}
use Rattle.std.proofs.lemmas.Nat.{mul-le}
use Rattle.vrp_model.specs.Problem.{IsProblem, Problem, place_count, weight_of}
use Rattle.vrp_bound_prices.specs.CapacityCut.{CapacityCut, cut_prices_of}
use Rattle.vrp_bound_prices.specs.Priced.{AreLawfulPrices, above_nothing, below_nothing, price_in, rebate_in}

pub not_both : (b : Bool) → b ≡ false → b ≡ true → ⊥
not_both b is_false is_true = let never : false ≡ true = sym is_false ∙ is_true in cc

one_is_nothing : (z : ℤ) → (above_nothing z ≡ 0) ⊎ (below_nothing z ≡ 0)
one_is_nothing (pos n) = inr refl
one_is_nothing (negsuc n) = inl refl

pub lawful_moderate : (p : Problem) (scale : ℕ) (prices : List ℤ) (cuts : List CapacityCut) (place : ℕ) → IsProblem p → scale ≤ 1000 → place < place_count p → AreLawfulPrices p scale prices cuts
    → (price_in prices place ≤ 1000000000 + cut_prices_of cuts 0 place) × (rebate_in prices place ≤ 1000000000000)
lawful_moderate p scale prices cuts zero problem few within lawful = (omega arith, omega arith)
lawful_moderate p scale prices cuts (suc k) problem few within lawful =
    let depot : 0 < place_count p = omega (arith, problem.some_places) in
    let less = lawful.no_less 0 (suc k) depot within (λ same. omega (arith, same)) in
    let more = lawful.no_more 0 (suc k) depot within (λ same. omega (arith, same)) in
    let scaled : scale * weight_of p 0 (suc k) ≤ 1000 * 1000000000 = mul-le scale (weight_of p 0 (suc k)) 1000 1000000000 few (problem.small_weights (0 * place_count p + suc k)) in
    elim (one_is_nothing (slice_index_or prices (suc k) (pos 0))) [
      | inl free ↦ (omega (arith, free), omega (arith, free, less, scaled))
      | inr plain ↦ (omega (arith, plain, more), omega (arith, plain))
    ]
