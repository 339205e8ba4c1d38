use Rattle.std.proofs.Common.{arith}
use Rattle.vrp_text.proofs.NumeralLemmas.{power_fits, power_positive}
use Rattle.vrp_text.proofs.lexer.numeral.over_power.Goals as goal

pub pow-unit-requires : goal.pow-unit-requires
pow-unit-requires c = power_fits c.args.down c.requires

pub nonzero_rem-size : goal.nonzero_rem-size
nonzero_rem-size c = omega (arith, c.pow-unit.ensures, power_positive c.args.down)

pub nonzero_div-result : goal.nonzero_div-result
nonzero_div-result c = omega (arith, c.pow-unit.ensures, power_positive c.args.down)
