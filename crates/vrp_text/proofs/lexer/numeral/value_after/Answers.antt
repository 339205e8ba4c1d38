use Rattle.std.proofs.Common.{length, get_or, arith}
use Rattle.vrp_text.proofs.NumeralLemmas.{digit_read, digit_fits, digit_is}
use Rattle.vrp_text.proofs.lexer.numeral.value_after.Goals as goal

pub overflow_mul-number : goal.overflow_mul-number
overflow_mul-number c =
    let room = digit_fits c.args.value c.loop-digit.number c.loop-digit.digit-index (length c.args.digits.now) c.loop-digit-test.true c.loop-digit.invariant.small c.requires.small in
    omega arith

pub overflow_add-number : goal.overflow_add-number
overflow_add-number c =
    let room = digit_fits c.args.value c.loop-digit.number c.loop-digit.digit-index (length c.args.digits.now) c.loop-digit-test.true c.loop-digit.invariant.small c.requires.small in
    let digit = digit_is (get_or c.args.digits.now c.loop-digit.digit-index 0) (c.requires.all_digits c.loop-digit.digit-index c.loop-digit-test.true) in
    omega (arith, digit.1, c.from.ensures)

pub loop-digit-preserved : goal.loop-digit-preserved
loop-digit-preserved c =
    digit_read c.args.value c.args.digits.now c.loop-digit.digit-index c.loop-digit.number c.from.result c.loop-digit-test.true c.loop-digit.invariant (c.requires.all_digits c.loop-digit.digit-index c.loop-digit-test.true) c.from.ensures
