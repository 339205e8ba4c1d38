use Rattle.std.proofs.Common.{◌≡◌, ◌∙◌, ◌+◌, ◌*◌, ◌++◌, Global, Vec, List, length, get_or, sym, ap, subst, arith}
use Rattle.vrp_routes.specs.Merge.{AreMerged}
use Rattle.vrp_routes.specs.declared.label.Label.{Label}
use Rattle.vrp_routes.proofs.MergeRounds.{merges_range}
use Rattle.vrp_routes.proofs.merge.append_ranges.Goals as goal

pub loop-index-preserved : goal.loop-index-preserved
loop-index-preserved g c = λ parts from so_far each.
    let n = c.loop-index.index in
    let ranges = c.args.ranges.now in
    let old = c.loop-index.merged.items in
    let range = c.index-ranges-index.result in
    let there : range ≡ get_or ranges n range = c.index-ranges-index.is in
    let more : AreMerged parts (length parts) (from + n * 16384) (from + n * 16384 + 16384) range.items = subst (λ (v : Vec (Label g.row.X.Denot) Global). AreMerged parts (length parts) (from + n * 16384) (from + n * 16384 + 16384) v.items) (sym there) (each n range c.loop-index-test.true) in
    let longer : c.extend_from_slice.new.self.items ≡ old ++ range.items = c.in_ok-extend_from_slice.ensures.items ∙ ap (λ (ls : List (Label g.row.X.Denot)). old ++ ls) c.as_slice.ensures.value in
    let place : from + n * 16384 + 16384 ≡ from + (n + 1) * 16384 = omega arith in
    subst (AreMerged parts (length parts) 0 (from + (n + 1) * 16384)) (sym longer)
    (subst (λ m. AreMerged parts (length parts) 0 m (old ++ range.items)) place
    (merges_range parts (length parts) 0 (from + n * 16384) (from + n * 16384 + 16384) old range.items (omega arith) (omega arith) (c.loop-index.invariant parts from so_far each) more))

pub returns : goal.returns
returns g c = λ parts from so_far each.
    let all : c.loop-index.index ≡ length c.args.ranges.now = omega (arith, c.loop-index-test.false, c.loop-index.auto.index-end) in
    subst (λ n. AreMerged parts (length parts) 0 (from + n * 16384) c.loop-index.merged.items) all (c.loop-index.invariant parts from so_far each)
