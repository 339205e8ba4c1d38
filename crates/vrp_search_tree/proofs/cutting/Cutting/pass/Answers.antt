use Rattle.std.proofs.Common.{arith}
use Rattle.vrp_search_tree.proofs.CuttingPasses.{pass_all, pass_count, pass_none, pass_piece, piece_is_prefix}
use Rattle.vrp_search_tree.proofs.cutting.Cutting.pass.Goals as goal

pub loop-index-init : goal.loop-index-init
loop-index-init c = rw c.none-next.ensures (pass_none c.args.instance.now c.args.wanted c.args.self.now c.requires.cutting c.requires.fewer)

pub overflow_add-too_few : goal.overflow_add-too_few
overflow_add-too_few c =
    let count = pass_count c.args.instance.now c.args.wanted c.loop-index.index c.args.self.now c.loop-index.next c.pieces-pieces.result.now c.loop-index.refined c.pieces-pieces.ensures.words c.loop-index.invariant in
    omega (arith, count, c.len.ensures, c.requires.wanted)

pub push_step-requires-clause-prefix : goal.push_step-requires-clause-prefix
push_step-requires-clause-prefix c =
    rw c.word.ensures (piece_is_prefix c.args.instance.now c.args.wanted c.loop-index.index c.args.self.now c.loop-index.next c.pieces-pieces.result.now c.index-pieces-index.result c.loop-index.refined c.pieces-pieces.ensures.words c.loop-index-test.true c.index-pieces-index.is c.loop-index.invariant)

pub push_step-requires-clause-room : goal.push_step-requires-clause-room
push_step-requires-clause-room c =
    let count = pass_count c.args.instance.now c.args.wanted c.loop-index.index c.args.self.now c.loop-index.next c.pieces-pieces.result.now c.loop-index.refined c.pieces-pieces.ensures.words c.loop-index.invariant in
    omega (arith, count, c.requires.wanted)

pub loop-index-preserved : goal.loop-index-preserved
loop-index-preserved c =
    pass_piece c.args.instance.now c.args.wanted c.len.result c.loop-index.index c.args.self.now c.loop-index.next c.push_step.new.self c.pieces-pieces.result.now c.index-pieces-index.result c.loop-index.refined c.in_ok-refined.field-0
    c.pieces-pieces.ensures.words c.loop-index-test.true c.index-pieces-index.is c.len.ensures c.loop-index.invariant
    (rw c.word.ensures at c.in_ok-refined.ensures)

pub returns : goal.returns
returns c =
    pass_all c.args.instance.now c.args.wanted c.loop-index.index c.args.self.now c.loop-index.next c.pieces-pieces.result.now c.loop-index.refined c.pieces-pieces.ensures.words c.loop-index-test.false c.loop-index.invariant
