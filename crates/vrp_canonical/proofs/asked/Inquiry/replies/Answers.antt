use Rattle.std.proofs.Common.{IfOk, subst, sym, arith}
use Rattle.std.proofs.lemmas.Grind.{common_steps}
use Rattle.std.proofs.lemmas.Int.{ints}
use Rattle.std.specs.List.{All}
use Rattle.std.proofs.lemmas.List.Elements.{All-append}
use Rattle.std.proofs.lemmas.List.Sorted.{All-permutation}
use Rattle.vrp_canonical.specs.Asking.{IsReply}
use Rattle.vrp_canonical.proofs.Replies.{first_and_rest}
use Rattle.vrp_canonical.proofs.asked.Inquiry.replies.Goals as goal

pub loop-worker-preserved : goal.loop-worker-preserved
loop-worker-preserved g c =
    let pool = c.args.self.now.pool.now in
    let (here, rest) = first_and_rest (λ worker. IfOk worker.replies (λ replies. All (IsReply pool) replies.items)) c.loop-worker.worker-iterator.rest.items c.next.new.self.rest.items c.in-Some.worker c.loop-worker.invariant.rest c.in-Some.ensures.steps.0 in
    let own : All (IsReply pool) c.in_ok-more.more.items = subst (λ found. IfOk found (λ replies. All (IsReply pool) replies.items)) c.in_ok-more.was here in
    record {
      rest = rest;
      replies = subst (All (IsReply pool)) (sym c.in_ok-append.ensures.items) (All-append (IsReply pool) c.loop-worker.replies.items c.in_ok-more.more.items c.loop-worker.invariant.replies own);
    }

pub returns : goal.returns
returns g c = All-permutation (IsReply c.args.self.now.pool.now) c.loop-worker.replies.items c.sort_by_key.new.self.items c.sort_by_key.ensures.permutation c.loop-worker.invariant.replies

pub loop-worker-init : goal.loop-worker-init
loop-worker-init g c = grind (ints, arith, common_steps)
