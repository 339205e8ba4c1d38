use Rattle.std.proofs.Common.{◌≡◌, ◌∙◌, Vec, Global, map}
use Rattle.vrp_canonical.specs.Ordering.{chosen_of}
use Rattle.vrp_canonical.specs.declared.leaves.BoundedChoice.{BoundedChoice}
use Rattle.vrp_canonical.proofs.CanonicalPlans.{told}
use Rattle.vrp_canonical.proofs.LeafBounds.{leaf_bound}
use Rattle.vrp_partition.specs.Choice.{NoneBelow}
use Rattle.vrp_partition.specs.declared.route.Route.{Route}
use Rattle.vrp_canonical.proofs.leaves.choice_of_leaf.Goals as goal

pub returns-clause-bound : goal.returns-clause-bound
returns-clause-bound g c =
    let leaf = c.args.leaf.now in
    let routes = c.as_slice.result.now in
    let unserved = c.all_customers-unserved.result in
    let trucks = c.trucks_of.result in
    let bound = c.in-Some-2.found.lower_bound in
    let are : routes ≡ map chosen_of leaf.pool =
    c.as_slice.ensures.value ∙ told c.in_ok-routes.field-0 c.in-Some.routes (λ (rs : Vec Route Global). rs.items ≡ map chosen_of leaf.pool) c.in-Some.is c.in_ok-routes.ensures in
    let below : NoneBelow routes unserved trucks leaf.range.least_routes bound =
    told c.in_ok-found.field-0 c.in-Some-2.found (λ (found : BoundedChoice). NoneBelow routes unserved trucks leaf.range.least_routes found.lower_bound) c.in-Some-2.is c.in_ok-found.ensures.bound in
    leaf_bound c.args.instance.now leaf.range leaf.pool routes c.in_ok-fleet.fleet.trucks trucks unserved bound c.requires.pool are c.in_ok-fleet.ensures.trucks c.trucks_of.ensures c.all_customers-unserved.ensures.value below
