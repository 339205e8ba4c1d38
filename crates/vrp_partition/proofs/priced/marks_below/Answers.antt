use Rattle.std.proofs.Common.{◌≡◌, ◌<ℤ◌, pos, negsuc, int_le, map, ap, subst, ◌∙◌, sym, arith, to_z, of_z, w64, SFits, rules}
use Rattle.std.proofs.lemmas.Int.{to_z-of_z}
use Rattle.std.proofs.lemmas.Result.{IfOk-weaker}
use Rattle.vrp_partition.specs.Pricing.{MarksWithin}
use Rattle.vrp_partition.specs.Prices.{gap_of}
use Rattle.vrp_partition.specs.declared.prices.TheConstants.{SCALE}
use Rattle.vrp_partition.proofs.MarkedRoutes.{marked, marked_none}
use Rattle.vrp_partition.proofs.priced.marks_below.Goals as goal

pub returns-in-Some : goal.returns-in-Some
returns-in-Some c =
    let priced = c.requires.priced in
    let fits : SFits w64 c.in-Some.gap = search rules in
    let is_gap : to_z w64 (of_z w64 c.in-Some.gap) ≡ gap_of c.args.priced.now.prices SCALE c.args.query.now.customers c.args.query.now.fleet.trucks c.args.query.now.limit = to_z-of_z w64 c.in-Some.gap fits ∙ (c.in-Some.ensures.value ∙ ap (gap_of c.args.priced.now.prices SCALE c.args.query.now.customers c.args.query.now.fleet.trucks) (omega (arith, c.from-incumbent.ensures))) in
    IfOk-weaker c.marks_within.result (λ marks. marks.items ≡ map (λ cost. int_le cost (to_z w64 (of_z w64 c.in-Some.gap))) c.as_slice.result.now) (λ marks. MarksWithin c.args.pool.now c.args.query.now.customers c.args.query.now.fleet.trucks c.args.query.now.least_routes c.args.query.now.limit marks.items)
    (λ marks are. subst (MarksWithin c.args.pool.now c.args.query.now.customers c.args.query.now.fleet.trucks c.args.query.now.least_routes c.args.query.now.limit) (sym (are ∙ ap (map (λ cost. int_le cost (to_z w64 (of_z w64 c.in-Some.gap)))) c.as_slice.ensures.value))
    (marked c.args.priced.now c.args.pool.now c.args.query.now.customers c.args.query.now.fleet.trucks c.args.query.now.least_routes c.args.query.now.limit (to_z w64 (of_z w64 c.in-Some.gap)) priced is_gap)) c.marks_within.ensures

pub returns-in-None : goal.returns-in-None
returns-in-None c =
    let priced = c.requires.priced in
    let negative : gap_of c.args.priced.now.prices SCALE c.args.query.now.customers c.args.query.now.fleet.trucks c.args.query.now.limit <ℤ pos 0 = subst (λ n. gap_of c.args.priced.now.prices SCALE c.args.query.now.customers c.args.query.now.fleet.trucks n <ℤ pos 0) (omega (arith, c.from-incumbent.ensures)) c.in-None.ensures.none in
    IfOk-weaker c.marks_within-in-None.result (λ marks. marks.items ≡ map (λ cost. int_le cost (negsuc 0)) c.as_slice-in-None.result.now) (λ marks. MarksWithin c.args.pool.now c.args.query.now.customers c.args.query.now.fleet.trucks c.args.query.now.least_routes c.args.query.now.limit marks.items)
    (λ marks are. subst (MarksWithin c.args.pool.now c.args.query.now.customers c.args.query.now.fleet.trucks c.args.query.now.least_routes c.args.query.now.limit) (sym (are ∙ ap (map (λ cost. int_le cost (negsuc 0))) c.as_slice-in-None.ensures.value))
    (marked_none c.args.priced.now c.args.pool.now c.args.query.now.customers c.args.query.now.fleet.trucks c.args.query.now.least_routes c.args.query.now.limit (negsuc 0) priced negative)) c.marks_within-in-None.ensures
