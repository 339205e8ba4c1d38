use Rattle.std.proofs.Common.{rules}
use Rattle.vrp_partition.proofs.priced.valid_prices.Goals as goal

pub returns-then-none_negative : goal.returns-then-none_negative
returns-then-none_negative c = record {
  valid = c.in-Some.ensures.valid c.args.pool.now c.requires.fit;
  costs = c.in_ok-costs.ensures;
  none = search rules;
}
