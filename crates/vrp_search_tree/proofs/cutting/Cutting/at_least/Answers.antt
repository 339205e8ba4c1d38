use Rattle.std.proofs.Common.{arith}
use Rattle.vrp_search_tree.proofs.CuttingPasses.{begin_further, enough_at_last, refined_more, refined_none}
use Rattle.vrp_search_tree.proofs.cutting.Cutting.at_least.Goals as goal

pub loop-depth-init : goal.loop-depth-init
loop-depth-init c = refined_none c.args.instance.now c.args.pieces c.args.self.now c.requires.cutting

pub loop-depth-preserved : goal.loop-depth-preserved
loop-depth-preserved c =
    refined_more c.args.instance.now c.args.pieces c.loop-depth._depth c.args.self.now c.loop-depth.self c.in_ok-next.next c.in_ok-next.refined c.loop-depth.invariant
    (omega (arith, c.if-wanted-len.false, c.len.ensures))
    c.in_ok-next.ensures

pub returns-then-not-refined-clause-begins : goal.returns-then-not-refined-clause-begins
returns-then-not-refined-clause-begins c =
    begin_further c.args.self.now c.loop-depth.self c.in_ok-next.next c.loop-depth.invariant.begins c.in_ok-next.ensures.begins

pub returns-clause-enough : goal.returns-clause-enough
returns-clause-enough c =
    enough_at_last c.args.instance.now c.args.pieces c.loop-depth._depth c.args.self.now c.loop-depth.self c.customers.ensures.problem
    (omega (arith, c.customers.ensures.value, c.loop-depth-test.false, c.loop-depth.auto._depth-end))
    c.loop-depth.invariant
