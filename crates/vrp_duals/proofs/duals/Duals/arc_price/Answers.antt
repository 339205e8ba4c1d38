use Rattle.std.proofs.Common.{◌<◌, ◌*◌, ◌∙◌, length, ap, arith, pos, ◌*ℤ◌}
use Rattle.vrp_duals.specs.Duals.{DualsOf, duals_of, entry, int_sum_by}
use Rattle.vrp_duals.specs.Folding.{arc_price}
use Rattle.vrp_duals.specs.declared.rows.EntryRow.{EntryRow}
use Rattle.vrp_duals.proofs.ArcSteps.{difference_fits, difference_is, same_difference, was_read}
use Rattle.vrp_duals.proofs.duals.Duals.arc_price.Goals as goal

pub overflow_sub-result-2 : goal.overflow_sub-result-2
overflow_sub-result-2 c =
    let d = duals_of c.self.inside.scale c.self.inside.prices.items c.self.inside.entries.items c.self.inside.rows.items in
    let lt : c.args.to < length d.prices = omega (arith, ap (λ (d : DualsOf). length d.prices) c.self.view_is, c.requires.one_each, c.requires.to) in
    let read = was_read c.args.instance.now d c.args.from c.args.to c.from.result c.weight.result c.from-2.result c.index.result.now c.self.invariant lt c.from.ensures c.weight.ensures.value c.weight.ensures.small c.from-2.ensures c.index.ensures in
    difference_fits (c.from.result * c.weight.result) c.index.result.now c.entry_price.result read.weight_small read.price_small c.entry_price.ensures.small

pub returns-clause-value : goal.returns-clause-value
returns-clause-value c =
    let d = duals_of c.self.inside.scale c.self.inside.prices.items c.self.inside.entries.items c.self.inside.rows.items in
    let lt : c.args.to < length d.prices = omega (arith, ap (λ (d : DualsOf). length d.prices) c.self.view_is, c.requires.one_each, c.requires.to) in
    let read = was_read c.args.instance.now d c.args.from c.args.to c.from.result c.weight.result c.from-2.result c.index.result.now c.self.invariant lt c.from.ensures c.weight.ensures.value c.weight.ensures.small c.from-2.ensures c.index.ensures in
    let paid = c.entry_price.ensures.value ∙ ap (int_sum_by (λ (row : EntryRow). pos (entry row.customers c.args.from c.args.to) *ℤ row.price)) c.deref.ensures.value in
    (difference_is (c.from.result * c.weight.result) c.index.result.now c.entry_price.result read.weight_small read.price_small c.entry_price.ensures.small).value
    ∙ (same_difference _ _ _ _ _ _ read.weight read.price paid ∙ ap (λ (d : DualsOf). arc_price c.args.instance.now d c.args.from c.args.to) c.self.view_is)

pub returns-clause-small : goal.returns-clause-small
returns-clause-small c =
    let d = duals_of c.self.inside.scale c.self.inside.prices.items c.self.inside.entries.items c.self.inside.rows.items in
    let lt : c.args.to < length d.prices = omega (arith, ap (λ (d : DualsOf). length d.prices) c.self.view_is, c.requires.one_each, c.requires.to) in
    let read = was_read c.args.instance.now d c.args.from c.args.to c.from.result c.weight.result c.from-2.result c.index.result.now c.self.invariant lt c.from.ensures c.weight.ensures.value c.weight.ensures.small c.from-2.ensures c.index.ensures in
    (difference_is (c.from.result * c.weight.result) c.index.result.now c.entry_price.result read.weight_small read.price_small c.entry_price.ensures.small).small
