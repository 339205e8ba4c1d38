use Rattle.std.proofs.Common.{◌≡◌, true, List, ℕ, ◌+◌, ◌<◌, [], drop, length, get_or, sym, subst, arith}
use Rattle.vrp_model.specs.CustomerSet.{set_of}
use Rattle.vrp_routes.specs.ClosedLevel.{HasPlaces, is_closed_in}
use Rattle.vrp_routes.specs.Useful.{IsUsefulIn}
use Rattle.vrp_routes.specs.declared.closed.ClosedLevel.{ClosedLevel}
use Rattle.vrp_routes.specs.declared.closed.ClosedRoute.{ClosedRoute}
use Rattle.vrp_routes.specs.Setting.{setting_of}
use Rattle.vrp_routes.proofs.ClosedSteps.{ClosesSome, closes_all, closes_none, closes_not, closes_one, label_stops, no_places, route_of_label, some_stops}
use Rattle.vrp_routes.proofs.Labels.{read_label}
use Rattle.vrp_routes.proofs.closed.close_share.Goals as goal
use Rattle.vrp_routes.proofs.closed.close_share.Goals.{in-Some+in_ok-offer, in_default}

pub loop-at-init : goal.loop-at-init
loop-at-init g c =
    let s = setting_of g.T.CompletionTest c.args.setting.now.test.now in
    let closed : ClosedLevel = record { routes = c.new.result; by_set = c.new-2.result } in
    record {
      places = no_places closed c.new-2.ensures.empty;
      closes = λ k stops some is. closes_none s.problem s.range (is_closed_in c.args.share) c.args.start stops closed c.new.ensures.items;
    }

pub cost_in_share-requires-clause-label : goal.cost_in_share-requires-clause-label
cost_in_share-requires-clause-label g c = λ _ _.
    let (k, stops, is, some) = c.requires.level in
    let stops_here = drop c.args.start stops in
    let at = c.loop-at.at in
    let lt : at < length stops_here = omega (arith, is.are.long, c.loop-at-test.true) in
    (get_or stops_here at [], read_label (setting_of g.T.CompletionTest c.args.setting.now.test.now) k stops_here c.args.labels.now at c.index-labels-at.result is lt c.index-labels-at.is, some_stops k (get_or stops_here at []) (is.are.size at [] lt) some)

pub loop-at-preserved : goal.loop-at-preserved
loop-at-preserved g c =
    let s = setting_of g.T.CompletionTest c.args.setting.now.test.now in
    let labels = c.args.labels.now in
    let start = c.args.start in
    let at = c.loop-at.at in
    let old = c.loop-at.closed in
    let label = c.index-labels-at.result in
    let mine = is_closed_in c.args.share in
    elim c.match-cost_in_share.branch [
      | in-Some+in_ok-offer w ↦ record {
        places = subst HasPlaces (sym w.closed-is) w.in_ok-offer.ensures.places;
        closes = λ k stops some is.
            let stops_here = drop start stops in
            let lt : at < length stops_here = omega (arith, is.are.long, c.loop-at-test.true) in
            let is_label = read_label s k stops_here labels at label is lt c.index-labels-at.is in
            let route : ClosedRoute = record { set = label.set; cost = w.in-Some.cost; load = label.load; label = start + at } in
            subst (ClosesSome s.problem s.range mine start stops (at + 1)) (sym w.closed-is)
            (closes_one s.problem s.range mine start stops at old w.offer.new.self route (c.loop-at.invariant.closes k stops some is) c.loop-at.invariant.places
            (route_of_label s k start stops labels at label w.in-Some.cost is some c.loop-at-test.true is_label (w.in-Some.ensures.cost (get_or stops_here at []) is_label))
            w.in_ok-offer.ensures.offered);
      }
      | in_default w ↦ record {
        places = subst HasPlaces (sym w.closed-is) c.loop-at.invariant.places;
        closes = λ k stops some is.
            let stops_here = drop start stops in
            let lt : at < length stops_here = omega (arith, is.are.long, c.loop-at-test.true) in
            subst (ClosesSome s.problem s.range mine start stops (at + 1)) (sym w.closed-is)
            (closes_not s.problem s.range mine start stops at old (c.loop-at.invariant.closes k stops some is) (λ own useful.
            w.in_default.ensures.none (get_or stops_here at []) (read_label s k stops_here labels at label is lt c.index-labels-at.is) (subst (λ (xs : List ℕ). mine (set_of xs) ≡ true) (sym (label_stops start stops at)) own) (subst (IsUsefulIn s.problem s.range) (sym (label_stops start stops at)) useful)));
      }
    ]

pub returns : goal.returns
returns g c = λ k stops some is.
    closes_all (setting_of g.T.CompletionTest c.args.setting.now.test.now) (is_closed_in c.args.share) k c.args.start stops c.args.labels.now c.loop-at.at c.loop-at.closed is (omega (arith, c.loop-at-test.false, c.loop-at.auto.at-end)) (c.loop-at.invariant.closes k stops some is)
