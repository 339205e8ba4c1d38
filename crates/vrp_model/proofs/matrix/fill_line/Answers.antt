use Rattle.std.proofs.Common.{◌<◌, ◌≤◌, length, sym, ◌∙◌, rules}
use Rattle.vrp_model.proofs.FilledSquare.{IsFilled-line, IsFilled-skip, IsFilled-to_end, IsFilled-write, IsListed-on, entry_fits, next_within, on_line}
use Rattle.vrp_model.proofs.matrix.fill_line.Goals as goal
use Rattle.vrp_model.proofs.matrix.fill_line.Goals.{then-lists, else-lists}

pub loop-across-init : goal.loop-across-init
loop-across-init c =
    IsFilled-line c.args.layout c.args.nodes c.args.entries.now c.args.square.now c.args.first c.args.line c.requires.line_from_one c.requires.line_within c.requires.so_far

pub bounds-entries-next : goal.bounds-entries-next
bounds-entries-next c =
    next_within c.args.layout c.args.nodes c.args.entries.now c.loop-across.square c.loop-across.next c.args.line c.loop-across.across c.cell-row.result.0 c.cell-row.result.1 (on_line _ _ c.loop-across-test.true) c.requires.count (sym c.cell-row.ensures) (sym c.lists.ensures ∙ c.if-lists.true) c.loop-across.invariant

pub offset_bounds-entries-next : goal.offset_bounds-entries-next
offset_bounds-entries-next c =
    let within : c.loop-across.next < length c.args.entries.now = next_within c.args.layout c.args.nodes c.args.entries.now c.loop-across.square c.loop-across.next c.args.line c.loop-across.across c.cell-row.result.0 c.cell-row.result.1 (on_line _ _ c.loop-across-test.true) c.requires.count (sym c.cell-row.ensures) (sym c.lists.ensures ∙ c.if-lists.true) c.loop-across.invariant in
    search rules

pub overflow_add-next : goal.overflow_add-next
overflow_add-next c =
    let within : c.loop-across.next < length c.args.entries.now = next_within c.args.layout c.args.nodes c.args.entries.now c.loop-across.square c.loop-across.next c.args.line c.loop-across.across c.cell-row.result.0 c.cell-row.result.1 (on_line _ _ c.loop-across-test.true) c.requires.count (sym c.cell-row.ensures) (sym c.lists.ensures ∙ c.if-lists.true) c.loop-across.invariant in
    search rules

pub loop-across-preserved : goal.loop-across-preserved
loop-across-preserved c =
    let within : c.loop-across.across ≤ c.args.nodes = on_line _ _ c.loop-across-test.true in
    let cell = sym c.cell-row.ensures in
    elim c.if-lists.branch [
      | then-lists w ↦
          rw (w.square-is, w.next-is)
          (IsFilled-write c.args.layout c.args.nodes c.args.entries.now c.loop-across.square _ c.loop-across.next c.args.line c.loop-across.across c.cell-row.result.0 c.cell-row.result.1 within cell
          (IsListed-on c.args.layout c.args.nodes c.args.line c.loop-across.across c.cell-row.result.0 c.cell-row.result.1 c.requires.line_from_one c.requires.line_within c.loop-across.auto.across within cell (sym c.lists.ensures ∙ w.if-lists.true))
          w.write.ensures (c.requires.small c.loop-across.next) c.loop-across.invariant)
      | else-lists w ↦
          rw (w.square-is, w.next-is)
          (IsFilled-skip c.args.layout c.args.nodes c.args.entries.now c.loop-across.square c.loop-across.next c.args.line c.loop-across.across within (rw cell (sym c.lists.ensures ∙ w.if-lists.false)) c.loop-across.invariant)
    ]

pub write-requires-clause-room : goal.write-requires-clause-room
write-requires-clause-room c = c.loop-across.auto.square ∙ c.requires.room

pub overflow_cast-entries : goal.overflow_cast-entries
overflow_cast-entries c = entry_fits _ (c.requires.small c.loop-across.next)

pub write-requires-clause-listed : goal.write-requires-clause-listed
write-requires-clause-listed c =
    IsListed-on c.args.layout c.args.nodes c.args.line c.loop-across.across c.cell-row.result.0 c.cell-row.result.1 c.requires.line_from_one c.requires.line_within c.loop-across.auto.across (on_line _ _ c.loop-across-test.true) (sym c.cell-row.ensures) (sym c.lists.ensures ∙ c.if-lists.true)

pub returns : goal.returns
returns c =
    IsFilled-to_end c.args.layout c.args.nodes c.args.entries.now c.loop-across.square c.loop-across.next c.args.line c.loop-across.across c.loop-across.auto.across-end c.loop-across-test.false c.loop-across.invariant
