use Rattle.std.proofs.Common.{◌+◌, ◌<◌, length, map, Vec, Global, sym, ap, subst, ◌∙◌, arith}
use Rattle.std.proofs.lemmas.Grind.{common_steps}
use Rattle.std.proofs.lemmas.Int.{ints}
use Rattle.std.proofs.lemmas.List.{length-map}
use Rattle.vrp_canonical.specs.Ordering.{AreMarked, chosen_of, stops_in}
use Rattle.vrp_canonical.specs.declared.ordered.ListedRoute.{ListedRoute}
use Rattle.vrp_canonical.proofs.Marked.{at_stops, stops_at, with_marked, without_unmarked}
use Rattle.vrp_canonical.proofs.SetTests.{route_read}
use Rattle.vrp_canonical.proofs.ordered.marked_routes.Goals as goal
use Rattle.vrp_canonical.proofs.ordered.marked_routes.Goals.{then-marks-at+in_ok-stops+in_ok-push, else-marks-at}

pub loop-at-preserved : goal.loop-at-preserved
loop-at-preserved c =
    let pool = c.args.pool.now in
    let stops = map stops_in pool in
    let routes = c.args.routes.now in
    let marks = c.args.marks.now in
    let at = c.loop-at.at in
    let within : at < length pool = omega (arith, c.loop-at-test.true, c.len-at-end.ensures) in
    elim c.if-marks-at.branch [
      | then-marks-at+in_ok-stops+in_ok-push w ↦
          let seen = w.index-routes-at.result in
          let there : at < length routes = omega (arith, within, ap length c.requires.routes, length-map pool chosen_of) in
          subst (AreMarked stops routes marks (at + 1)) (sym (ap (λ (v : Vec ListedRoute Global). v.items) w.listed-is ∙ w.in_ok-push.ensures.items))
          (with_marked stops routes marks at c.loop-at.listed.items (record { stops = w.in_ok-stops.stops; set = seen.set; cost = seen.cost }) (at_stops pool at within) c.loop-at.invariant (w.in_ok-stops.ensures ∙ sym (stops_at pool at within)) (route_read routes at seen there w.index-routes-at.is))
      | else-marks-at w ↦
          subst (AreMarked stops routes marks (at + 1)) (sym (ap (λ (v : Vec ListedRoute Global). v.items) w.listed-is))
          (without_unmarked stops routes marks at c.loop-at.listed.items c.loop-at.invariant w.if-marks-at.false)
    ]

pub offset_bounds-routes-at : goal.offset_bounds-routes-at
offset_bounds-routes-at c = grind (ints, arith, common_steps)

pub bounds-routes-at : goal.bounds-routes-at
bounds-routes-at c = grind (ints, arith, common_steps)
