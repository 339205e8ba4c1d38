use Rattle.std.proofs.Common.{sym, ◌∙◌, refl}
use Rattle.std.proofs.lemmas.List.{length-set}
use Rattle.vrp_model.proofs.WeightPlaces.{entry_fits, entry_row_fits, entry_within}
use Rattle.vrp_model.proofs.WrittenCells.{written_once, written_twice}
use Rattle.vrp_model.proofs.matrix.write.Goals as goal

pub overflow_mul-square : goal.overflow_mul-square
overflow_mul-square c =
    entry_row_fits _ _ c.args.row c.args.nodes c.requires.listed.row_within c.ranges.nodes.fits c.from-row.ensures c.from-side.ensures

pub overflow_add-square : goal.overflow_add-square
overflow_add-square c =
    entry_fits _ _ _ c.args.row c.args.nodes c.args.column c.requires.listed.row_within c.requires.listed.column_within c.ranges.nodes.fits c.from-row.ensures c.from-side.ensures c.from-column.ensures

pub bounds-square-row : goal.bounds-square-row
bounds-square-row c =
    entry_within c.args.nodes c.args.row c.args.column _ _ _ _ c.requires.listed.row_from_one c.requires.listed.row_within c.requires.listed.column_from_one c.requires.listed.column_within c.from-row.ensures c.from-side.ensures c.from-column.ensures c.requires.room

pub overflow_mul-square-then-not-is_full : goal.overflow_mul-square-then-not-is_full
overflow_mul-square-then-not-is_full c =
    entry_row_fits _ _ c.args.column c.args.nodes c.requires.listed.column_within c.ranges.nodes.fits c.from-column.ensures c.from-side.ensures

pub overflow_add-square-then-not-is_full : goal.overflow_add-square-then-not-is_full
overflow_add-square-then-not-is_full c =
    entry_fits _ _ _ c.args.column c.args.nodes c.args.row c.requires.listed.column_within c.requires.listed.row_within c.ranges.nodes.fits c.from-column.ensures c.from-side.ensures c.from-row.ensures

pub bounds-square-column : goal.bounds-square-column
bounds-square-column c =
    rw length-set (entry_within c.args.nodes c.args.column c.args.row _ _ _ _ c.requires.listed.column_from_one c.requires.listed.column_within c.requires.listed.row_from_one c.requires.listed.row_within c.from-column.ensures c.from-side.ensures c.from-row.ensures c.requires.room)

pub returns-else-not-is_full : goal.returns-else-not-is_full
returns-else-not-is_full c =
    written_once c.args.layout c.args.nodes c.args.row c.args.column c.args.weight c.args.square.now _ (sym c.is_full.ensures ∙ c.if-not-is_full.false)
    (rw (c.from-row.ensures, c.from-side.ensures, c.from-column.ensures) refl)
    (entry_within c.args.nodes c.args.row c.args.column _ _ _ _ c.requires.listed.row_from_one c.requires.listed.row_within c.requires.listed.column_from_one c.requires.listed.column_within c.from-row.ensures c.from-side.ensures c.from-column.ensures c.requires.room)

pub returns-then-not-is_full : goal.returns-then-not-is_full
returns-then-not-is_full c =
    written_twice c.args.layout c.args.nodes c.args.row c.args.column c.args.weight c.args.square.now _ _ (sym c.is_full.ensures ∙ c.if-not-is_full.true)
    (rw (c.from-row.ensures, c.from-side.ensures, c.from-column.ensures) refl)
    (rw (c.from-column.ensures, c.from-side.ensures, c.from-row.ensures) refl)
    (entry_within c.args.nodes c.args.row c.args.column _ _ _ _ c.requires.listed.row_from_one c.requires.listed.row_within c.requires.listed.column_from_one c.requires.listed.column_within c.from-row.ensures c.from-side.ensures c.from-column.ensures c.requires.room)
    (rw length-set (entry_within c.args.nodes c.args.column c.args.row _ _ _ _ c.requires.listed.column_from_one c.requires.listed.column_within c.requires.listed.row_from_one c.requires.listed.row_within c.from-column.ensures c.from-side.ensures c.from-row.ensures c.requires.room))
