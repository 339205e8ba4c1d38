use Rattle.std.proofs.Common.{◌*◌, ◌-◌, ◌∙◌, List, ℤ, ap, get_or, length, pos, ◌*ℤ◌}
use Rattle.std.specs.List.{range_with_len, sum_by}
use Rattle.vrp_duals.specs.Duals.{int_sum_by, low_of, most_pairs}
use Rattle.vrp_duals.specs.declared.rows.EntryRow.{EntryRow}
use Rattle.vrp_duals.specs.declared.rows.SubsetRow.{SubsetRow}
use Rattle.vrp_duals.proofs.ArcSteps.{combined_is, same_low}
use Rattle.vrp_duals.proofs.duals.Duals.low.Goals as goal

pub returns-clause-value : goal.returns-clause-value
returns-clause-value c =
    let a = c.price_sum.ensures.value ∙ ap (λ (xs : List ℤ). int_sum_by (λ place. get_or xs place (pos 0)) (range_with_len 1 (length xs - 1))) c.deref.ensures.value in
    let b = c.entry_sum.ensures.value ∙ ap (int_sum_by (λ (row : EntryRow). pos row.count *ℤ row.price)) c.deref-2.ensures.value in
    let r = c.row_sum.ensures.value ∙ ap (λ (rows : List SubsetRow). pos (sum_by (λ (row : SubsetRow). most_pairs row * row.price) rows)) c.deref-3.ensures.value in
    combined_is c.price_sum.result c.entry_sum.result c.row_sum.result c.price_sum.ensures.small c.entry_sum.ensures.small c.row_sum.ensures.small
    ∙ (same_low _ _ _ _ _ _ a b r ∙ ap low_of c.self.view_is)
