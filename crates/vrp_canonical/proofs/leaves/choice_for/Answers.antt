use Rattle.std.proofs.Common.{◌+◌, Bool, Vec, Global, sym, subst}
use Rattle.vrp_canonical.specs.Leaves.{KeepsChoices}
use Rattle.vrp_canonical.proofs.CanonicalPlans.{told}
use Rattle.vrp_canonical.proofs.LeafBounds.{kept_bound}
use Rattle.vrp_partition.specs.Branching.{IsFound}
use Rattle.vrp_partition.specs.Pricing.{MarksWithin}
use Rattle.vrp_canonical.proofs.leaves.choice_for.Goals as goal

pub returns-in-Some-found-clause-bound : goal.returns-in-Some-found-clause-bound
returns-in-Some-found-clause-bound g c =
    let fewest = c.args.sought.now.least_routes in
    let whole = c.args.sought.now.rest in
    let routes = c.args.routes.now in
    let kept = c.as_slice-2.result.now in
    let marked : MarksWithin routes whole.unserved whole.trucks fewest whole.most c.in-Some.marks.items =
    told c.in_ok-marks.field-0 c.in-Some.marks (λ (ms : Vec Bool Global). MarksWithin routes whole.unserved whole.trucks fewest whole.most ms.items) c.in-Some.is c.in_ok-marks.ensures.marks in
    let keeps : KeepsChoices routes whole.unserved whole.trucks fewest whole.most kept =
    subst (KeepsChoices routes whole.unserved whole.trucks fewest whole.most) (sym c.as_slice-2.ensures.value)
    (c.in_ok-kept.ensures whole.unserved whole.trucks fewest whole.most (subst (MarksWithin routes whole.unserved whole.trucks fewest whole.most) (sym c.as_slice.ensures.value) marked)) in
    let found : IsFound kept whole.unserved whole.trucks fewest (whole.most + 1) c.in-Some-found.found =
    told c.in_ok-found.found c.in-Some-found.found (IsFound kept whole.unserved whole.trucks fewest (whole.most + 1)) c.in-Some-found.is c.in_ok-found.ensures.found in
    let (below, within) = c.bounded.ensures.bound kept whole.unserved whole.trucks fewest found in
    kept_bound routes kept whole.unserved whole.trucks fewest whole.most c.bounded.result.lower_bound keeps below within
