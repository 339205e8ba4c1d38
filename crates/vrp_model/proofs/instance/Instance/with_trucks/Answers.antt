use Rattle.std.proofs.Common.{arith}
use Rattle.vrp_model.specs.Problem.{Problem}
use Rattle.vrp_model.proofs.FewTrucks.{kept_with_limit, same_number}
use Rattle.vrp_model.proofs.instance.Instance.with_trucks.Goals as goal

pub invariant_of-result : goal.invariant_of-result
invariant_of-result c =
    let inside : Problem = record { nodes = c.self.inside.nodes.items; demands = c.self.inside.demands.items; weights = c.self.inside.weights.items; capacity = c.self.inside.capacity; trucks = c.self.inside.trucks } in
    kept_with_limit inside _ c.self.inside.least_in.items c.self.inside.symmetric (λ trucks is. omega (arith, same_number _ trucks is, c.requires.some)) (λ trucks is. omega (arith, same_number _ trucks is, c.requires.few)) c.self.invariant
