use Rattle.std.proofs.Common.{arith, Contains}
use Rattle.std.proofs.lemmas.List.Elements.{All-push, All-same, Contains-get_or}
use Rattle.vrp_linear_program.proofs.names.without.Goals as goal

pub loop-index-preserved : goal.loop-index-preserved
loop-index-preserved c =
    let known = Contains c.args.names.now in
    let found = Contains-get_or c.args.names.now c.loop-index.index 0 c.loop-index-test.true in (
      All-same known c.push.new.self.items _ c.in_ok-push.ensures.items (All-push known c.loop-index.kept.items _ c.loop-index.invariant.0 found),
      omega (arith, c.in_ok-push.ensures.len, c.loop-index.invariant.1),
    )
