use Rattle.std.specs.List.{All}
use Rattle.vrp_canonical.specs.Asking.{IsReply}
use Rattle.vrp_canonical.proofs.asked.QuestionWorker.taken_replies.Given as goal

abbrev pub invariant-loop : goal.invariant-loop
invariant-loop g l = All (IsReply l.inquiry.pool.now) l.replies.items
