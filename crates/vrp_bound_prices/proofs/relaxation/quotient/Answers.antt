use Rattle.std.proofs.Common.{◌+◌, ◌*◌, ◌/◌, subst, sym}
use Rattle.std.specs.Int.{div_ceil}
use Rattle.vrp_bound_prices.proofs.Hundredths.{IsQuotientUp, IsHundredthsUp, quotient_up, hundredths_up}
use Rattle.vrp_bound_prices.proofs.relaxation.quotient.Goals as goal

pub returns-clause-low : goal.returns-clause-low
returns-clause-low c =
    let up = subst (λ n. IsQuotientUp c.args.scaled c.args.scale (div_ceil (100 * (c.args.scaled / c.args.scale) + n) 100)) (sym c.div_ceil.ensures) (quotient_up c.args.scaled c.args.scale c.requires.some) in
    up.low

pub returns-clause-reached : goal.returns-clause-reached
returns-clause-reached c =
    let up = subst (λ n. IsQuotientUp c.args.scaled c.args.scale (div_ceil (100 * (c.args.scaled / c.args.scale) + n) 100)) (sym c.div_ceil.ensures) (quotient_up c.args.scaled c.args.scale c.requires.some) in
    λ _. up.reached

pub returns-clause-least : goal.returns-clause-least
returns-clause-least c =
    let up = subst (λ n. IsHundredthsUp c.args.scaled c.args.scale (100 * (c.args.scaled / c.args.scale) + n)) (sym c.div_ceil.ensures) (hundredths_up c.args.scaled c.args.scale c.requires.some) in
    up.least

pub returns-clause-enough : goal.returns-clause-enough
returns-clause-enough c =
    let up = subst (λ n. IsHundredthsUp c.args.scaled c.args.scale (100 * (c.args.scaled / c.args.scale) + n)) (sym c.div_ceil.ensures) (hundredths_up c.args.scaled c.args.scale c.requires.some) in
    λ _. up.enough
