use Rattle.std.proofs.Common.{◌≡◌, ◌-ℤ◌, ◌≤ℤ◌, ◌≤◌, ◌∙◌, bit_and, ap, eq-eqb, subst, sym, arith, unsigned_abs}
use Rattle.std.specs.Int.RustNames.{bit_xor}
use Rattle.std.proofs.lemmas.Bool.{eqb-true, false≢true}
use Rattle.vrp_duals.proofs.RowBits.{part_of_bits}
use Rattle.std.proofs.lemmas.Int.{ints}
use Rattle.vrp_duals.specs.Folding.{weigh}
use Rattle.vrp_labels.specs.Label.{excess, rows_without}
use Rattle.vrp_labels.proofs.Graphs.{dominates_by}
use Rattle.vrp_labels.proofs.SignedSums.{paid_at_most, pays_at_most}
use Rattle.vrp_labels.proofs.graph.RouteGraph.dominates.Goals as goal

pub returns-then-not-is_subset : goal.returns-then-not-is_subset
returns-then-not-is_subset c =
    let v = c.args.label.now.visited in
    let w = c.args.other.now.visited in (
      λ no. absurd (false≢true no),
      λ better. absurd (false≢true (sym c.if-not-is_subset.true ∙ (c.is_subset.ensures ∙ eq-eqb (bit_and v w) v (part_of_bits v w better.visited)))),
    )

pub returns : goal.returns
returns c =
    let g = c.args.self.now in
    let label = c.args.label.now in
    let other = c.args.other.now in
    let more : c.symmetric_difference-more.result ≡ rows_without label.rows other.rows = c.symmetric_difference-more.ensures ∙ ap (bit_xor label.rows) c.intersection.ensures in
    let part = eqb-true (bit_and label.visited other.visited) label.visited (sym c.is_subset.ensures ∙ c.if-not-is_subset.false) in
    let price : weigh g.folded.row_prices c.symmetric_difference-more.result ≡ excess g label.rows other.rows = ap (weigh g.folded.row_prices) more in
    let le : label.cost ≤ℤ other.cost = grind (ints, arith, c.if-label-other.false) in
    let room : c.abs_diff.result ≡ unsigned_abs (other.cost -ℤ label.cost) = grind (ints, arith, c.abs_diff.ensures) in (
      λ yes. dominates_by g label other c.requires.same c.if-label-other-2.false part
          (pays_at_most label.cost other.cost (excess g label.rows other.rows) c.abs_diff.result le room (subst (λ n. n ≤ c.abs_diff.result) price (c.weighs_at_most.ensures.0 yes))),
      λ better. c.weighs_at_most.ensures.1 (subst (λ n. n ≤ c.abs_diff.result) (sym price) (paid_at_most label.cost other.cost (excess g label.rows other.rows) c.abs_diff.result le room better.cost)),
    )
