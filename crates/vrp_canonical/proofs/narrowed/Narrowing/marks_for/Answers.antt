use Rattle.std.proofs.Common.{◌≡◌, subst, arith}
use Rattle.vrp_partition.specs.Pricing.{MarksWithin}
use Rattle.vrp_canonical.proofs.narrowed.Narrowing.marks_for.Goals as goal

pub returns-clause-marks : goal.returns-clause-marks
returns-clause-marks g c =
    let sought = c.args.sought.now in
    let whole = sought.rest in
    let most : c.in-Ok.limit ≡ whole.most = omega (arith, c.in-Ok.ensures) in
    let routes = c.args.routes.now in
    let marks = c.in_ok-marks.marks.items in
    subst (λ n. MarksWithin routes whole.unserved whole.trucks sought.least_routes n marks) most c.in_ok-marks.ensures.marks
