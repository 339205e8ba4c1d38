use Rattle.std.proofs.Common.{arith}
use Rattle.vrp_search_tree.proofs.PrefixLength.{prefixes_are_short}
use Rattle.vrp_search_tree.proofs.partial.Partial.cost.Goals as goal

pub returns-clause-small : goal.returns-clause-small
returns-clause-small c =
    let p = c.self.inside.instance.now in
    omega (arith, c.self.invariant.0.now.small, prefixes_are_short p c.self.inside.word.items c.self.invariant.0.problem c.self.invariant.0.prefix, c.self.invariant.0.problem.few_places)
