use Rattle.std.proofs.Common.{rules}
use Rattle.vrp_canonical.proofs.SetTests.{alike, left_by}
use Rattle.vrp_canonical.proofs.residual.Residual.without.Goals as goal

pub returns-clause-after : goal.returns-clause-after
returns-clause-after c =
    let within = alike c.is_subset.result _ _ c.is_subset.ensures c.if-not-is_subset.false in
    record {
      within = within;
      unserved = left_by c.args.route.now.set c.args.self.now.unserved c.difference.result within c.difference.ensures;
      trucks = search rules;
      most = search rules;
    }
