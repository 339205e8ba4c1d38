use Rattle.std.proofs.Common.{◌≡◌, ap, refl, sym, ◌∙◌}
use Rattle.std.specs.Cmp.Lexicographic.{lists_agrees, slice_cmp}
use Rattle.std.specs.Ordering.{is_lt, is_some_and, nat_cmp}
use Rattle.vrp_model.proofs.Ordered.{earlier_when_less, less_when_earlier}
use Rattle.vrp_canonical.proofs.ordered.is_earlier.Goals as goal

pub returns : goal.returns
returns c =
    let stops = c.args.stops.now in
    let others = c.args.others.now in
    let compared : c.lt.result ≡ is_lt (slice_cmp nat_cmp stops others) = c.lt.ensures ∙ ap (is_some_and is_lt) (lists_agrees {R = nat_cmp} (λ x y. refl) stops others) in
    (λ yes. earlier_when_less stops others (sym compared ∙ yes), λ earlier. compared ∙ less_when_earlier stops others earlier)
