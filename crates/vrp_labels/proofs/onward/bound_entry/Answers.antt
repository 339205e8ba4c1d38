use Rattle.std.proofs.Common.{◌≡◌, ◌∙◌, ◌+ℤ◌, ◌≤ℤ◌, ◌<◌, ◌+◌, ◌-◌, ◌*◌, ℤ, ◌≤◌, inl, inr, unsigned_abs, to_z, of_z, w64, rules, pos, ap, get_or, sym, subst, arith}
use Rattle.std.proofs.lemmas.Bool.{cases_eq, false≢true}
use Rattle.std.proofs.lemmas.Int.{ints}
use Rattle.vrp_duals.specs.declared.limits.TheConstants.{MAX_ARC_PRICE}
use Rattle.vrp_labels.specs.Graph.{demand_at}
use Rattle.vrp_labels.specs.OnwardBound.{no_entry, onward_at}
use Rattle.vrp_labels.specs.declared.onward.BoundEntry.{BoundEntry}
use Rattle.vrp_labels.proofs.OnwardTable.{StepTo, entry_of, step_done, stepped, stepped_not}
use Rattle.vrp_labels.proofs.SignedSums.{same_z}
use Rattle.vrp_labels.proofs.onward.bound_entry.Goals.{then-demand-room+then-follows-2, else-demand-room, else-demand-room-via-then-demand-room+else-follows-2, else-demand-room-via-else-demand-room}
use Rattle.vrp_labels.proofs.onward.bound_entry.Goals as goal

pub onward_cost-value-requires-clause-least : goal.onward_cost-value-requires-clause-least
onward_cost-value-requires-clause-least c =
    let e = entry_of c.args.graph.now c.args.table.now c.args.j c.args.room c.loop-i.i c.demand-demand.result c.places-places.result c.places-places.ensures.known c.requires.table c.loop-i.auto.i (omega (arith, c.loop-i-test.true, c.places-places.ensures.value)) c.demand-demand.ensures.value c.places-places.ensures.value c.if-demand-room.true in
    omega (arith, ints, e.low, e.high, c.requires.room, c.places-places.ensures.known.capacity)

pub onward_cost-value-requires-clause-other : goal.onward_cost-value-requires-clause-other
onward_cost-value-requires-clause-other c =
    let e = entry_of c.args.graph.now c.args.table.now c.args.j c.args.room c.loop-i.i c.demand-demand.result c.places-places.result c.places-places.ensures.known c.requires.table c.loop-i.auto.i (omega (arith, c.loop-i-test.true, c.places-places.ensures.value)) c.demand-demand.ensures.value c.places-places.ensures.value c.if-demand-room.true in
    omega (arith, ints, e.low_other, e.high_other, c.requires.room, c.places-places.ensures.known.capacity)

pub loop-i-preserved : goal.loop-i-preserved
loop-i-preserved c =
    let g = c.args.graph.now in
    let table = c.args.table.now in
    let j = c.args.j in
    let room = c.args.room in
    let i = c.loop-i.i in
    let inv = c.loop-i.invariant in
    let lt : i < g.folded.places = omega (arith, c.loop-i-test.true, c.places-places.ensures.value) in
    elim c.if-demand-room.branch [
      | then-demand-room+then-follows-2 w ↦
          let e = entry_of g table j room i c.demand-demand.result c.places-places.result c.places-places.ensures.known c.requires.table c.loop-i.auto.i lt c.demand-demand.ensures.value c.places-places.ensures.value w.if-demand-room.true in
          let x = get_or table ((room - c.demand-demand.result) * c.places-places.result + i) no_entry in
          let value = to_z w64 (of_z w64 w.onward_cost-value.result) in
          let same : to_z w64 (of_z w64 w.onward_cost-value.result) ≡ w.onward_cost-value.result = search (rules, ints) in
          let az = to_z w64 (of_z w64 w.arc-then-follows-2.result) in
          let arc : to_z w64 (of_z w64 w.arc-then-follows-2.result) ≡ w.arc-then-follows-2.result = same_z w.arc-then-follows-2.result (omega (arith, w.arc-then-follows-2.ensures.small)) in
          let there = onward_at g table i (room - demand_at g i) in
          subst (StepTo g table j room (i + 1)) (sym w.best-is) (stepped g table j room i c.loop-i.best w.improve.new.best value inv w.improve.ensures
          (λ follows le by. same ∙ (w.onward_cost-value.ensures.around (ap (λ (o : BoundEntry). o.by) e.is ∙ by) ∙ (ap (λ (o : BoundEntry). o.other +ℤ az) e.is ∙ ap (λ z. there.other +ℤ z) (arc ∙ w.arc-then-follows-2.ensures.value))))
          (λ follows le by. same ∙ (w.onward_cost-value.ensures.along (λ is_by. by (sym (ap (λ (o : BoundEntry). o.by) e.is) ∙ is_by)) ∙ (ap (λ (o : BoundEntry). o.least +ℤ az) e.is ∙ ap (λ z. there.least +ℤ z) (arc ∙ w.arc-then-follows-2.ensures.value))))
          (elim (cases_eq x.by j) [
            | inl by ↦ low value x.other w.arc-then-follows-2.result (same ∙ (w.onward_cost-value.ensures.around by ∙ ap (λ z. x.other +ℤ z) arc)) e.low_other w.arc-then-follows-2.ensures.small
            | inr by ↦ low value x.least w.arc-then-follows-2.result (same ∙ (w.onward_cost-value.ensures.along by ∙ ap (λ z. x.least +ℤ z) arc)) e.low w.arc-then-follows-2.ensures.small
          ]))
      | else-demand-room w ↦
          subst (StepTo g table j room (i + 1)) (sym w.best-is) (stepped_not g table j room i c.loop-i.best inv
          (λ follows le. elim w.else-demand-room.branch [
            | else-demand-room-via-then-demand-room+else-follows-2 v ↦ absurd (false≢true (sym v.if-follows-2.false ∙ v.follows-then-demand-room.ensures.1 follows))
            | else-demand-room-via-else-demand-room v ↦ absurd (let above = v.if-demand-room.false in omega (arith, above, le, c.demand-demand.ensures.value))
          ]))
    ]
  where
    low : (v o a : ℤ) → v ≡ o +ℤ a → pos 0 ≤ℤ (o +ℤ pos (MAX_ARC_PRICE * c.args.room)) → unsigned_abs a ≤ MAX_ARC_PRICE → pos 0 ≤ℤ (v +ℤ pos (MAX_ARC_PRICE * (c.args.room + 1)))
    low v o a e p q = omega (arith, ints)

pub returns : goal.returns
returns c = step_done c.args.graph.now c.args.table.now c.args.j c.args.room c.loop-i.i c.loop-i.best c.loop-i.invariant (omega (arith, c.loop-i-test.false, c.places-places.ensures.value))
