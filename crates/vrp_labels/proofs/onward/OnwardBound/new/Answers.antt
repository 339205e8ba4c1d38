use Rattle.std.proofs.Common.{◌≡◌, ◌∙◌, ◌+◌, ◌*◌, ◌/◌, ◌%◌, List, ap, sym, subst, arith}
use Rattle.vrp_labels.specs.OnwardBound.{IsBoundStep, IsBoundTableTo}
use Rattle.vrp_labels.specs.declared.onward.BoundEntry.{BoundEntry}
use Rattle.vrp_labels.proofs.OnwardTable.{bounds, table_here, table_more}
use Rattle.vrp_labels.proofs.onward.OnwardBound.new.Goals as goal

pub bound_entry-entry-requires-clause-table : goal.bound_entry-entry-requires-clause-table
bound_entry-entry-requires-clause-table c =
    let g = c.args.graph.now in
    let k = c.loop-k.k in
    subst (λ n. IsBoundTableTo g c.as_slice.result.now (k / n * g.folded.places + k % n)) (sym c.places-places.ensures.value)
    (subst (λ (xs : List BoundEntry). IsBoundTableTo g xs (k / g.folded.places * g.folded.places + k % g.folded.places)) (sym c.as_slice.ensures.value) (table_here g c.loop-k.table.items k c.loop-k.invariant))

pub loop-k-preserved : goal.loop-k-preserved
loop-k-preserved c =
    let g = c.args.graph.now in
    let k = c.loop-k.k in
    subst (λ (xs : List BoundEntry). IsBoundTableTo g xs (k + 1)) (sym c.in_ok-push.ensures.items)
    (table_more g c.loop-k.table.items k c.bound_entry-entry.result c.places-places.ensures.known c.loop-k.invariant
    (subst (λ n. IsBoundStep g c.loop-k.table.items (k % n) (k / n) c.bound_entry-entry.result) c.places-places.ensures.value
    (subst (λ (xs : List BoundEntry). IsBoundStep g xs (k % c.places-places.result) (k / c.places-places.result) c.bound_entry-entry.result) c.as_slice.ensures.value c.bound_entry-entry.ensures)))

pub returns-clause-onward : goal.returns-clause-onward
returns-clause-onward c =
    let g = c.args.graph.now in
    let end : c.loop-k.k ≡ (c.capacity.result + 1) * c.places-places.result = omega (arith, c.loop-k-test.false, c.loop-k.auto.k-end) in
    let all : c.loop-k.k ≡ (g.capacity + 1) * g.folded.places = end ∙ ap (λ n. (n + 1) * c.places-places.result) c.capacity.ensures.value ∙ ap (λ n. (g.capacity + 1) * n) c.places-places.ensures.value in
    bounds g c.loop-k.table.items (subst (IsBoundTableTo g c.loop-k.table.items) all c.loop-k.invariant)
