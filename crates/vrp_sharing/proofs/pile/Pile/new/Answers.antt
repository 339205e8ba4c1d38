use Rattle.std.proofs.Common.{◌<◌, arith, rules}
use Rattle.vrp_sharing.proofs.NewPiles.{one_thief_more}
use Rattle.vrp_sharing.proofs.pile.Pile.new.Goals as goal

pub loop-preserved : goal.loop-preserved
loop-preserved c =
    let few = c.requires.few in
    let here = c.loop-test.true in
    let rest = c.loop.invariant.rest in
    let two : 1 < c.loop.owner.parts = omega (arith, few, here, rest) in
    search (rules, one_thief_more _ _ _ _ _ _ _ two c.in_ok-make_thief.ensures.owner c.in_ok-make_thief.ensures.thief c.in_ok-push.ensures.items c.loop.invariant)
