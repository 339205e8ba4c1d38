use Rattle.std.proofs.Common.{ap, arith, get_or, refl}
use Rattle.std.proofs.lemmas.Bool.{false≢true}
use Rattle.vrp_duals.specs.Folding.{weigh}
use Rattle.vrp_duals.proofs.FoldedRows.{weigh_none}
use Rattle.vrp_duals.proofs.Weighed.{weigh_first}
use Rattle.vrp_duals.proofs.sums.weighs_at_most.Goals as goal

pub loop-row-preserved : goal.loop-row-preserved
loop-row-preserved c =
    let ws = c.args.prices.now in
    let step = weigh_first ws c.loop-row.left c.in-Some.row c.requires c.in-Some.ensures.first in
    omega (arith, step, ap (weigh ws) c.take_first.ensures.rest, c.loop-row.invariant, c.if-price-room.false, ap (λ i. get_or ws i 0) c.from.ensures)

pub returns-then-price-room : goal.returns-then-price-room
returns-then-price-room c =
    let ws = c.args.prices.now in
    let step = weigh_first ws c.loop-row.left c.in-Some.row c.requires c.in-Some.ensures.first in (
      λ no. absurd (false≢true no),
      λ le. absurd (omega (arith, le, step, c.loop-row.invariant, c.if-price-room.true, ap (λ i. get_or ws i 0) c.from.ensures)),
    )

pub returns : goal.returns
returns c =
    let ws = c.args.prices.now in (
      λ yes. omega (arith, ap (weigh ws) c.in_default.ensures.none, weigh_none ws, c.loop-row.invariant),
      λ le. refl,
    )
