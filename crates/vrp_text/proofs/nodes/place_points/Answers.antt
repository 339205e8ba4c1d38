use Rattle.std.proofs.Common.{◌≡◌, ◌+◌, ◌*◌, ℕ, ℤ, pos, List, length, get_or, sym, ap, ◌∙◌, SFits, to_z, of_z, w64, arith, rules}
use Rattle.std.proofs.lemmas.Grind.{common_steps}
use Rattle.std.proofs.lemmas.Int.{ints}
use Rattle.std.proofs.lemmas.List.FromFn.{length-map-range_with_len, get_or-map-range_with_len}
use Rattle.std.proofs.lemmas.List.Elements.{All-set}
use Rattle.vrp_model.specs.Grid.{IsCoordinate}
use Rattle.vrp_text.specs.Complete.{row_nodes, row_points, node_fault}
use Rattle.vrp_text.specs.declared.lexer.key.Key.TheVariants.{NodeCoord}
use Rattle.vrp_text.proofs.NodeLemmas.{place_more, node_refused, all_placed, coordinate_at}
use Rattle.vrp_text.proofs.nodes.place_points.Goals as goal

rows : (nodes : ℕ) (numbers : List ℤ) → length (row_nodes 3 nodes numbers) ≡ nodes
rows nodes numbers = length-map-range_with_len (λ row. get_or numbers (3 * row) (pos 0)) 0 nodes

points : (nodes : ℕ) (numbers : List ℤ) → length (row_points nodes numbers) ≡ nodes
points nodes numbers = length-map-range_with_len (λ row. (get_or numbers (3 * row + 1) (pos 0), get_or numbers (3 * row + 2) (pos 0))) 0 nodes

pub loop-row-preserved : goal.loop-row-preserved
loop-row-preserved c =
    let nodes = c.args.nodes in
    let numbers = c.args.numbers.now in
    let row = c.loop-row.row in
    let fits : SFits w64 (get_or numbers (3 * row) (pos 0)) = search rules in
    let word : to_z w64 (of_z w64 (get_or numbers (3 * row) (pos 0))) ≡ get_or numbers (3 * row) (pos 0) = omega (arith, ints, fits) in
    let east = get_or numbers (3 * row + 1) (pos 0) in
    let north = get_or numbers (3 * row + 2) (pos 0) in
    let east_fits : SFits w64 (get_or numbers (3 * row + 1) (pos 0)) = search rules in
    let north_fits : SFits w64 (get_or numbers (3 * row + 2) (pos 0)) = search rules in
    let east_word : to_z w64 (of_z w64 east) ≡ east = omega (arith, ints, east_fits) in
    let north_word : to_z w64 (of_z w64 north) ≡ north = omega (arith, ints, north_fits) in
    let node = c.in-Some.ensures in
    rw node.3 (rw east_word (rw north_word (
      place_more (pos 0, pos 0) nodes (row_nodes 3 nodes numbers) (row_points nodes numbers) row c.loop-row.given c.loop-row.points (get_or numbers (3 * row) (pos 0)) (east, north) c.in-Some.place c.loop-row.invariant.0
          (omega (arith, rows nodes numbers)) (omega (arith, rows nodes numbers, points nodes numbers))
          (get_or-map-range_with_len (λ r. get_or numbers (3 * r) (pos 0)) 0 nodes row row (pos 0) (omega arith) (omega arith))
          (get_or-map-range_with_len (λ r. (get_or numbers (3 * r + 1) (pos 0), get_or numbers (3 * r + 2) (pos 0))) 0 nodes row row (pos 0, pos 0) (omega arith) (omega arith))
          (omega (arith, node.0, c.loop-row.invariant.0.mark_each)) (sym word ∙ node.1) node.2,
      All-set (λ point. IsCoordinate point.0 × IsCoordinate point.1) c.loop-row.points c.in-Some.place (east, north) (coordinate_at numbers row 1 c.requires.within (omega arith) (omega arith) (omega (arith, c.requires.rows)), coordinate_at numbers row 2 c.requires.within (omega arith) (omega arith) (omega (arith, c.requires.rows))) c.loop-row.invariant.1,
    )))

pub returns-in_default-clause-refused : goal.returns-in_default-clause-refused
returns-in_default-clause-refused c =
    let nodes = c.args.nodes in
    let numbers = c.args.numbers.now in
    let row = c.loop-row.row in
    let fits : SFits w64 (get_or numbers (3 * row) (pos 0)) = search rules in
    let word : to_z w64 (of_z w64 (get_or numbers (3 * row) (pos 0))) ≡ get_or numbers (3 * row) (pos 0) = omega (arith, ints, fits) in
    ap (node_fault NodeCoord)
    (node_refused (pos 0, pos 0) nodes (row_nodes 3 nodes numbers) (row_points nodes numbers) row c.loop-row.given c.loop-row.points (to_z w64 (of_z w64 (get_or numbers (3 * row) (pos 0)))) c.loop-row.invariant.0
    (omega (arith, rows nodes numbers))
    (get_or-map-range_with_len (λ r. get_or numbers (3 * r) (pos 0)) 0 nodes row row (pos 0) (omega arith) (omega arith) ∙ sym word)
    c.in_default.ensures.1)

pub returns-clause-sound : goal.returns-clause-sound
returns-clause-sound c =
    (all_placed (pos 0, pos 0) c.args.nodes (row_nodes 3 c.args.nodes c.args.numbers.now) (row_points c.args.nodes c.args.numbers.now) c.loop-row.row c.loop-row.given c.loop-row.points c.loop-row.invariant.0
    (omega (arith, rows c.args.nodes c.args.numbers.now)) (omega (arith, points c.args.nodes c.args.numbers.now))).0

pub returns-clause-value : goal.returns-clause-value
returns-clause-value c =
    (all_placed (pos 0, pos 0) c.args.nodes (row_nodes 3 c.args.nodes c.args.numbers.now) (row_points c.args.nodes c.args.numbers.now) c.loop-row.row c.loop-row.given c.loop-row.points c.loop-row.invariant.0
    (omega (arith, rows c.args.nodes c.args.numbers.now)) (omega (arith, points c.args.nodes c.args.numbers.now))).1

pub loop-row-init : goal.loop-row-init
loop-row-init c = grind (ints, arith, common_steps)
