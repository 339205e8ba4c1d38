use Rattle.std.specs.List.{All}
use Rattle.vrp_canonical.specs.Asking.{IsReply, IsRight}
use Rattle.vrp_canonical.proofs.searches.Searches.take_replies.Given as goal

abbrev pub invariant-loop-reply : goal.invariant-loop-reply
invariant-loop-reply g l = record {
  rest : All (IsReply l.pool) l.reply-iterator.rest.items;
  right : All (IsRight l.pool) l.answers.items;
}
