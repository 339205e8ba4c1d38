use Rattle.vrp_canonical.specs.Asking.{IsReply}
use Rattle.vrp_canonical.proofs.Replies.{first_and_rest, one_answer_more, right_answer}
use Rattle.vrp_canonical.proofs.searches.Searches.take_replies.Goals as goal

pub returns-then-yes : goal.returns-then-yes
returns-then-yes g c =
    let pool = c.args.pool.now in
    let (here, _) = first_and_rest (IsReply pool) c.loop-reply.reply-iterator.rest.items c.next.new.self.rest.items c.in-Some.reply c.loop-reply.invariant.rest c.in-Some.ensures.steps.0 in
    one_answer_more pool c.loop-reply.answers.items c.push.new.self.items c.in-Some-answer.answered c.loop-reply.invariant.right
    (right_answer pool c.in-Some.reply c.in-Some-answer.answered here c.in-Some-answer.is) c.in_ok-push.ensures.items

pub loop-reply-preserved : goal.loop-reply-preserved
loop-reply-preserved g c =
    let pool = c.args.pool.now in
    let (here, rest) = first_and_rest (IsReply pool) c.loop-reply.reply-iterator.rest.items c.next.new.self.rest.items c.in-Some.reply c.loop-reply.invariant.rest c.in-Some.ensures.steps.0 in
    record {
      rest = rest;
      right = one_answer_more pool c.loop-reply.answers.items c.push.new.self.items c.in-Some-answer.answered c.loop-reply.invariant.right
          (right_answer pool c.in-Some.reply c.in-Some-answer.answered here c.in-Some-answer.is) c.in_ok-push.ensures.items;
    }
