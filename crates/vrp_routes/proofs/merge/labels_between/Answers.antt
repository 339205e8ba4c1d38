use Rattle.std.proofs.Common.{arith}
use Rattle.vrp_routes.proofs.RisingParents.{cut_between, places_rise}
use Rattle.vrp_routes.proofs.merge.labels_between.Goals as goal

pub slice_bounds-result-count : goal.slice_bounds-result-count
slice_bounds-result-count g c = places_rise c.args.labels.now c.args.from c.args.to c.place_from-low.result c.place_from-high.result c.requires.some c.place_from-low.ensures.within c.place_from-low.ensures.below c.place_from-high.ensures.above

pub slice_bounds-result-start : goal.slice_bounds-result-start
slice_bounds-result-start g c =
    let rises = places_rise c.args.labels.now c.args.from c.args.to c.place_from-low.result c.place_from-high.result c.requires.some c.place_from-low.ensures.within c.place_from-low.ensures.below c.place_from-high.ensures.above in
    omega (arith, rises, c.place_from-high.ensures.within)

pub returns : goal.returns
returns g c =
    let low = c.place_from-low.ensures in
    let high = c.place_from-high.ensures in
    cut_between c.args.labels.now c.args.from c.args.to c.place_from-low.result c.place_from-high.result (places_rise c.args.labels.now c.args.from c.args.to c.place_from-low.result c.place_from-high.result c.requires.some low.within low.below high.above) high.within c.requires.rising low.below low.above high.below high.above
