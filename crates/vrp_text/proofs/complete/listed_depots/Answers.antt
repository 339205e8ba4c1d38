use Rattle.std.proofs.Common.{◌≡◌, pos, neg_ℤ, true, length, get_or, take, sym, ap, ◌∙◌, arith, rules, SFits, w64, refl}
use Rattle.std.proofs.lemmas.Int.{ints}
use Rattle.std.proofs.Math.Nat.{le_refl}
use Rattle.std.specs.Ordering.{int_eq}
use Rattle.std.proofs.lemmas.List.{take_all}
use Rattle.std.proofs.lemmas.List.Sums.{position_or_len_is}
use Rattle.vrp_text.proofs.complete.listed_depots.Goals as goal

pub returns-then-number : goal.returns-then-number
returns-then-number c =
    let numbers = c.args.numbers.now in
    let here : int_eq (get_or numbers c.loop-place.place (pos 0)) (neg_ℤ (pos 1)) ≡ true =
    let fits : SFits w64 (get_or numbers c.loop-place.place (pos 0)) = search rules in
    let same : get_or numbers c.loop-place.place (pos 0) ≡ neg_ℤ (pos 1) = omega (arith, ints, fits, c.if-number.true) in
    rw same refl in
    let first = position_or_len_is (λ number. int_eq number (neg_ℤ (pos 1))) numbers c.loop-place.place (pos 0) (omega arith) c.loop-place.invariant (λ _. here) in
    ap (λ n. take n numbers) (sym first)

pub returns : goal.returns
returns c =
    let numbers = c.args.numbers.now in
    let first = position_or_len_is (λ number. int_eq number (neg_ℤ (pos 1))) numbers (length numbers) (pos 0) (le_refl (length numbers)) (λ k lt. c.loop-place.invariant k (omega arith)) (λ no. absurd (omega (arith, no))) in
    sym (ap (λ n. take n numbers) first ∙ take_all (length numbers) numbers (le_refl (length numbers)))
