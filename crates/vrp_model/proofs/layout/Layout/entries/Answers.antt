use Rattle.std.proofs.Common.{length, inl, inr, sym}
use Rattle.vrp_model.specs.Layout.{cells}
use Rattle.vrp_model.proofs.CellCounts.{half_with_diagonal, half_without_diagonal, length_cells_full, length_cells_lower_col, length_cells_lower_diag_col, length_cells_lower_diag_row, length_cells_lower_row, length_cells_upper_col, length_cells_upper_diag_col, length_cells_upper_diag_row, length_cells_upper_row}
use Rattle.vrp_model.proofs.layout.Layout.entries.Goals as goal

pub returns-in-FullMatrix : goal.returns-in-FullMatrix
returns-in-FullMatrix c = rw (c.in-FullMatrix.is, c.from-side.ensures) (sym (length_cells_full c.args.nodes))

pub returns-in-UpperRow : goal.returns-in-UpperRow
returns-in-UpperRow c =
    let n = c.args.nodes in
    rw (c.saturating_sub.ensures, c.from-side.ensures)
    (half_without_diagonal n (length (cells c.args.self n))
    (elim c.in-UpperRow.is [
      | inl upper_row ↦ rw upper_row (length_cells_upper_row n)
      | inr other ↦ elim other [
        | inl lower_row ↦ rw lower_row (length_cells_lower_row n)
        | inr columns ↦ elim columns [
          | inl upper_col ↦ rw upper_col (length_cells_upper_col n)
          | inr lower_col ↦ rw lower_col (length_cells_lower_col n)
        ]
      ]
    ]))

pub returns-in-UpperDiagRow : goal.returns-in-UpperDiagRow
returns-in-UpperDiagRow c =
    let n = c.args.nodes in
    rw c.from-side.ensures
    (half_with_diagonal n (length (cells c.args.self n))
    (elim c.in-UpperDiagRow.is [
      | inl upper_row ↦ rw upper_row (length_cells_upper_diag_row n)
      | inr other ↦ elim other [
        | inl lower_row ↦ rw lower_row (length_cells_lower_diag_row n)
        | inr columns ↦ elim columns [
          | inl upper_col ↦ rw upper_col (length_cells_upper_diag_col n)
          | inr lower_col ↦ rw lower_col (length_cells_lower_diag_col n)
        ]
      ]
    ]))
