use Rattle.std.proofs.Common.{ℕ, List, ◌+◌, ◌/◌, ◌∷◌, [], ◌∙◌, length, length-append, ap, arith}
use Rattle.std.specs.Prelude.{slice_index}
use Rattle.vrp_bound.proofs.WholeUnits.{quotient_more}
use Rattle.vrp_bound.proofs.quotients.Quotients.up_to.Goals as goal

pub loop-amount-preserved : goal.loop-amount-preserved
loop-amount-preserved c =
    let kept = c.loop-amount.whole.items in
    let unit = c.args.unit in
    let next = (c.loop-amount.amount / unit) ∷ [] in
    record {
      counted = ap length c.in_ok-push.ensures.items ∙ length-append kept next ∙ ap (λ n. n + 1) c.loop-amount.invariant.counted;
      each = λ k lt. ap (λ (xs : List ℕ). slice_index xs k) c.in_ok-push.ensures.items ∙ quotient_more unit c.loop-amount.amount kept c.loop-amount.invariant.counted c.loop-amount.invariant.each k lt;
    }

pub invariant_of-result : goal.invariant_of-result
invariant_of-result c = record { some = c.requires.unit; each = λ k lt. c.loop-amount.invariant.each k (omega (arith, lt, c.loop-amount.invariant.counted)) }
