use Rattle.std.proofs.Common.{◌≡◌, ◌+◌, ◌<◌, get_or, length, map, Vec, Global, [], sym, ap, subst, ◌∙◌, arith}
use Rattle.std.proofs.lemmas.List.{get_or-map, length-map}
use Rattle.vrp_canonical.specs.Ordering.{AreMarked, route_of, stops_of}
use Rattle.vrp_canonical.specs.Passing.{route_in}
use Rattle.vrp_canonical.specs.declared.ordered.ListedRoute.{ListedRoute}
use Rattle.vrp_canonical.proofs.Marked.{with_marked, without_unmarked}
use Rattle.vrp_canonical.proofs.ordered.kept_routes.Goals as goal
use Rattle.vrp_canonical.proofs.ordered.kept_routes.Goals.{then-marks-at+in_ok-stops+in_ok-push, else-marks-at}

pub loop-at-preserved : goal.loop-at-preserved
loop-at-preserved c =
    let ordered = c.args.ordered.now in
    let stops = map stops_of ordered in
    let routes = map route_of ordered in
    let marks = c.args.marks.now in
    let at = c.loop-at.at in
    let within : at < length ordered = omega (arith, c.loop-at-test.true) in
    let many : at < length stops = omega (arith, within, length-map ordered stops_of) in
    elim c.if-marks-at.branch [
      | then-marks-at+in_ok-stops+in_ok-push w ↦
          let here : ListedRoute = w.index-ordered-at.result in
          let at_stops : stops_of here ≡ get_or stops at [] = ap stops_of w.index-ordered-at.is ∙ sym (get_or-map stops_of ordered at here [] within) in
          let at_route : route_of here ≡ route_in routes at = ap route_of w.index-ordered-at.is ∙ sym (get_or-map route_of ordered at here (record { set = 0; cost = 0 }) within) in
          subst (AreMarked stops routes marks (at + 1)) (sym (ap (λ (v : Vec ListedRoute Global). v.items) w.kept-is ∙ w.in_ok-push.ensures.items))
          (with_marked stops routes marks at c.loop-at.kept.items (record { stops = w.in_ok-stops.stops; set = here.set; cost = here.cost }) many c.loop-at.invariant (w.in_ok-stops.ensures.items ∙ w.as_slice.ensures.value ∙ at_stops) at_route)
      | else-marks-at w ↦
          subst (AreMarked stops routes marks (at + 1)) (sym (ap (λ (v : Vec ListedRoute Global). v.items) w.kept-is))
          (without_unmarked stops routes marks at c.loop-at.kept.items c.loop-at.invariant w.if-marks-at.false)
    ]
