use Rattle.std.proofs.Common.{◌≡◌, ◌+◌, ◌*◌, ℕ, ℤ, pos, List, length, get_or, sym, ap, ◌∙◌, SFits, to_z, of_z, w64, arith, rules}
use Rattle.std.proofs.lemmas.Int.{ints}
use Rattle.std.proofs.lemmas.List.FromFn.{length-map-range_with_len, get_or-map-range_with_len}
use Rattle.std.specs.Prelude.{unsigned_abs}
use Rattle.vrp_text.specs.Complete.{row_nodes, row_demands, node_fault}
use Rattle.vrp_text.specs.declared.lexer.key.Key.TheVariants.{Demand}
use Rattle.vrp_text.proofs.NodeLemmas.{place_more, node_refused, all_placed}
use Rattle.vrp_text.proofs.nodes.place_demands.Goals as goal

rows : (nodes : ℕ) (numbers : List ℤ) → length (row_nodes 2 nodes numbers) ≡ nodes
rows nodes numbers = length-map-range_with_len (λ row. get_or numbers (2 * row) (pos 0)) 0 nodes

demands : (nodes : ℕ) (numbers : List ℤ) → length (row_demands nodes numbers) ≡ nodes
demands nodes numbers = length-map-range_with_len (λ row. unsigned_abs (get_or numbers (2 * row + 1) (pos 0))) 0 nodes

pub loop-row-preserved : goal.loop-row-preserved
loop-row-preserved c =
    let nodes = c.args.nodes in
    let numbers = c.args.numbers.now in
    let row = c.loop-row.row in
    let fits : SFits w64 (get_or numbers (2 * row) (pos 0)) = search rules in
    let word : to_z w64 (of_z w64 (get_or numbers (2 * row) (pos 0))) ≡ get_or numbers (2 * row) (pos 0) = omega (arith, ints, fits) in
    let demand_fits : SFits w64 (get_or numbers (2 * row + 1) (pos 0)) = search rules in
    let demand_word : to_z w64 (of_z w64 (get_or numbers (2 * row + 1) (pos 0))) ≡ get_or numbers (2 * row + 1) (pos 0) = omega (arith, ints, demand_fits) in
    let node = c.in-Some.ensures in
    rw node.3
    (place_more 0 nodes (row_nodes 2 nodes numbers) (row_demands nodes numbers) row c.loop-row.given c.loop-row.demands (get_or numbers (2 * row) (pos 0)) c.unsigned_abs.result c.in-Some.place c.loop-row.invariant
    (omega (arith, rows nodes numbers)) (omega (arith, rows nodes numbers, demands nodes numbers))
    (get_or-map-range_with_len (λ r. get_or numbers (2 * r) (pos 0)) 0 nodes row row (pos 0) (omega arith) (omega arith))
    (get_or-map-range_with_len (λ r. unsigned_abs (get_or numbers (2 * r + 1) (pos 0))) 0 nodes row row 0 (omega arith) (omega arith) ∙ sym (c.unsigned_abs.ensures.value ∙ ap unsigned_abs demand_word))
    (omega (arith, node.0, c.loop-row.invariant.mark_each)) (sym word ∙ node.1) node.2)

pub returns-in_default-clause-refused : goal.returns-in_default-clause-refused
returns-in_default-clause-refused c =
    let nodes = c.args.nodes in
    let numbers = c.args.numbers.now in
    let row = c.loop-row.row in
    let fits : SFits w64 (get_or numbers (2 * row) (pos 0)) = search rules in
    let word : to_z w64 (of_z w64 (get_or numbers (2 * row) (pos 0))) ≡ get_or numbers (2 * row) (pos 0) = omega (arith, ints, fits) in
    ap (node_fault Demand)
    (node_refused 0 nodes (row_nodes 2 nodes numbers) (row_demands nodes numbers) row c.loop-row.given c.loop-row.demands (to_z w64 (of_z w64 (get_or numbers (2 * row) (pos 0)))) c.loop-row.invariant
    (omega (arith, rows nodes numbers))
    (get_or-map-range_with_len (λ r. get_or numbers (2 * r) (pos 0)) 0 nodes row row (pos 0) (omega arith) (omega arith) ∙ sym word)
    c.in_default.ensures.1)

pub returns-clause-sound : goal.returns-clause-sound
returns-clause-sound c =
    (all_placed 0 c.args.nodes (row_nodes 2 c.args.nodes c.args.numbers.now) (row_demands c.args.nodes c.args.numbers.now) c.loop-row.row c.loop-row.given c.loop-row.demands c.loop-row.invariant
    (omega (arith, rows c.args.nodes c.args.numbers.now)) (omega (arith, demands c.args.nodes c.args.numbers.now))).0

pub returns-clause-value : goal.returns-clause-value
returns-clause-value c =
    (all_placed 0 c.args.nodes (row_nodes 2 c.args.nodes c.args.numbers.now) (row_demands c.args.nodes c.args.numbers.now) c.loop-row.row c.loop-row.given c.loop-row.demands c.loop-row.invariant
    (omega (arith, rows c.args.nodes c.args.numbers.now)) (omega (arith, demands c.args.nodes c.args.numbers.now))).1
