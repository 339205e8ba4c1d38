use Rattle.std.proofs.Common.{◌≡◌, ◌∙◌, ◌+◌, ◌-◌, ◌*◌, ap, arith}
use Rattle.std.proofs.lemmas.Int.{ints}
use Rattle.vrp_labels.specs.declared.onward.BoundEntry.{BoundEntry}
use Rattle.vrp_labels.proofs.OnwardTable.{bounds, entry_at, entry_read, index_inside, beyond_gap}
use Rattle.vrp_labels.proofs.SignedSums.{sum_fits, sum_is}
use Rattle.vrp_labels.proofs.closing.is_beyond_gap.Goals as goal

pub overflow_add-result : goal.overflow_add-result
overflow_add-result c =
    let g = c.args.graph.now in
    let label = c.args.label.now in
    let table = c.args.onward.now.table.items in
    let count = (g.capacity + 1) * g.folded.places in
    let inside = index_inside g.folded.places (g.capacity - label.load) g.capacity label.at (omega arith) c.requires.label.place in
    let at : (c.capacity.result - label.load) * c.places.result + label.at ≡ (g.capacity - label.load) * g.folded.places + label.at = ap (λ n. (n - label.load) * c.places.result + label.at) c.capacity.ensures.value ∙ ap (λ n. (g.capacity - label.load) * n + label.at) c.places.ensures.value in
    let is = entry_read g table count label.at (g.capacity - label.load) _ c.index.result.now c.requires.table at (omega (arith, at, inside, c.requires.table.long)) c.index.ensures in
    let least = ap (λ (e : BoundEntry). e.least) is in
    let entry = entry_at g table count label.at (g.capacity - label.load) c.requires.table c.requires.label.place inside in
    sum_fits label.cost c.index.result.now.least (omega (arith, ints, least, entry.low, entry.high, c.places.ensures.known.capacity, c.requires.label.small, c.requires.label.light))

pub returns : goal.returns
returns c = λ high.
    let g = c.args.graph.now in
    let label = c.args.label.now in
    let table = c.args.onward.now.table.items in
    let count = (g.capacity + 1) * g.folded.places in
    let inside = index_inside g.folded.places (g.capacity - label.load) g.capacity label.at (omega arith) c.requires.label.place in
    let at : (c.capacity.result - label.load) * c.places.result + label.at ≡ (g.capacity - label.load) * g.folded.places + label.at = ap (λ n. (n - label.load) * c.places.result + label.at) c.capacity.ensures.value ∙ ap (λ n. (g.capacity - label.load) * n + label.at) c.places.ensures.value in
    let is = entry_read g table count label.at (g.capacity - label.load) _ c.index.result.now c.requires.table at (omega (arith, at, inside, c.requires.table.long)) c.index.ensures in
    let least = ap (λ (e : BoundEntry). e.least) is in
    let entry = entry_at g table count label.at (g.capacity - label.load) c.requires.table c.requires.label.place inside in
    beyond_gap g table c.args.onward.now.gap label (bounds g table c.requires.table) c.requires.some c.requires.label.place c.requires.label.light
    (λ le. let sum = sum_is label.cost c.index.result.now.least (omega (arith, ints, least, entry.low, entry.high, c.places.ensures.known.capacity, c.requires.label.small, c.requires.label.light)) in
    grind (ints, arith, high, le, least, sum))
