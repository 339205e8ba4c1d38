use Rattle.std.proofs.Common.{◌≡◌, ◌==◌, true, length, get_or, sym, arith}
use Rattle.std.proofs.Math.Nat.{le_refl}
use Rattle.std.proofs.lemmas.Bool.Decides.{nat_tests}
use Rattle.std.proofs.lemmas.List.Sums.{position_or_len_is}
use Rattle.std.specs.List.{position_or_len}
use Rattle.vrp_model.proofs.WordReading.{first_place}
use Rattle.vrp_model.proofs.plan.stops_len.Goals as goal

pub returns-then-word-place-eq0-clause-value : goal.returns-then-word-place-eq0-clause-value
returns-then-word-place-eq0-clause-value c =
    let here : (get_or c.args.word.now c.loop-place.place 0 == 0) ≡ true = grind (arith, nat_tests, c.if-word-place-eq0.true) in
    sym (position_or_len_is (λ k. k == 0) c.args.word.now c.loop-place.place 0 (omega arith) c.loop-place.invariant (λ _. here))

pub returns-clause-value : goal.returns-clause-value
returns-clause-value c =
    sym (position_or_len_is (λ k. k == 0) c.args.word.now (length c.args.word.now) 0 (le_refl (length c.args.word.now)) (λ k lt. c.loop-place.invariant k (omega arith)) (λ never. absurd (omega (arith, never))))

pub returns-clause-within : goal.returns-clause-within
returns-clause-within c =
    let none : position_or_len (λ k. k == 0) c.args.word.now ≡ length c.args.word.now = position_or_len_is (λ k. k == 0) c.args.word.now (length c.args.word.now) 0 (le_refl (length c.args.word.now)) (λ k lt. c.loop-place.invariant k (omega arith)) (λ never. absurd (omega (arith, never))) in
    absurd (omega (arith, none, first_place c.args.word.now c.requires.end c.requires.some))
