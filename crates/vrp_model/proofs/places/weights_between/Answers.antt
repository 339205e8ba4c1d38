use Rattle.std.proofs.Common.{◌*◌, ◌∙◌, ap, sym, length, map}
use Rattle.std.proofs.Math.Nat.{le_antisymm}
use Rattle.vrp_model.specs.Grid.{entry_at}
use Rattle.vrp_model.proofs.MadeLists.{rows_all, rows_length, rows_push}
use Rattle.vrp_model.proofs.WeightPlaces.{square_fits}
use Rattle.vrp_model.proofs.places.weights_between.Goals as goal

pub overflow_mul-places : goal.overflow_mul-places
overflow_mul-places c = square_fits _ c.requires.few

pub loop-from-preserved : goal.loop-from-preserved
loop-from-preserved c =
    let places = c.args.places.now in
    let old = c.loop-from.entries in
    let new = c.push_row.new.entries in (
      rows_push (λ from. map (entry_at c.args.weights.now from) places) places old.items new.items c.loop-from.from-index c.loop-from-test.true c.loop-from.invariant.0 c.in_ok-push_row.ensures.row,
      new.ok.0 ∙ rows_length _ places old.items new.items c.loop-from.from-index (sym old.ok.0 ∙ c.loop-from.invariant.1) c.in_ok-push_row.ensures.row,
      c.push_row.ensures.still_small,
    )

pub returns-clause-value : goal.returns-clause-value
returns-clause-value c =
    rows_all (λ from. map (entry_at c.args.weights.now from) c.args.places.now) c.args.places.now c.loop-from.entries.items c.loop-from.from-index c.loop-from-test.false c.loop-from.invariant.0

pub returns-clause-square : goal.returns-clause-square
returns-clause-square c =
    c.loop-from.invariant.1 ∙ ap (λ k. k * length c.args.places.now) (le_antisymm c.loop-from.auto.from-index-end c.loop-from-test.false)
