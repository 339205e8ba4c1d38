use Rattle.vrp_duals.proofs.RowBits.{prices_small}
use Rattle.vrp_duals.proofs.tables.row_prices.Goals as goal

pub returns-clause-small : goal.returns-clause-small
returns-clause-small c = prices_small c.args.rows.now c.loop-index.prices.items c.requires.small c.loop-index.invariant.each
