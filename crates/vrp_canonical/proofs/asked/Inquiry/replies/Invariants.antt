use Rattle.std.proofs.Common.{IfOk}
use Rattle.std.specs.List.{All}
use Rattle.vrp_canonical.specs.Asking.{IsReply}
use Rattle.vrp_canonical.proofs.asked.Inquiry.replies.Given as goal

abbrev pub invariant-loop-worker : goal.invariant-loop-worker
invariant-loop-worker g l = record {
  rest : All (λ worker. IfOk worker.replies (λ replies. All (IsReply l.self.pool.now) replies.items)) l.worker-iterator.rest.items;
  replies : All (IsReply l.self.pool.now) l.replies.items;
}
