use Rattle.std.proofs.Common.{ap, arith, get_or}
use Rattle.vrp_duals.specs.Folding.{weigh}
use Rattle.vrp_duals.specs.declared.limits.TheConstants.{MAX_ROW_PRICE}
use Rattle.vrp_duals.proofs.FoldedRows.{weigh_none}
use Rattle.vrp_duals.proofs.Weighed.{weigh_first, weigh_small}
use Rattle.vrp_duals.proofs.sums.weigh.Goals as goal

pub overflow_add-sum : goal.overflow_add-sum
overflow_add-sum c =
    let ws = c.args.prices.now in
    let step = weigh_first ws c.loop-row.left c.in-Some.row c.requires.long c.in-Some.ensures.first in
    omega (arith, weigh_small ws c.args.rows MAX_ROW_PRICE c.requires.small, c.requires.long, step, c.loop-row.invariant, ap (λ i. get_or ws i 0) c.from.ensures)

pub loop-row-preserved : goal.loop-row-preserved
loop-row-preserved c =
    let ws = c.args.prices.now in
    let step = weigh_first ws c.loop-row.left c.in-Some.row c.requires.long c.in-Some.ensures.first in
    omega (arith, step, ap (weigh ws) c.take_first.ensures.rest, c.loop-row.invariant, ap (λ i. get_or ws i 0) c.from.ensures)

pub returns-clause-value : goal.returns-clause-value
returns-clause-value c =
    let ws = c.args.prices.now in
    omega (arith, ap (weigh ws) c.in_default.ensures.none, weigh_none ws, c.loop-row.invariant)

pub returns-clause-small : goal.returns-clause-small
returns-clause-small c = omega (arith, c.loop-row.invariant, weigh_small c.args.prices.now c.args.rows MAX_ROW_PRICE c.requires.small, c.requires.long)
