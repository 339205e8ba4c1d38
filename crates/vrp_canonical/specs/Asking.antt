-- Questions about parts of the pool, and their answers.
use Rattle.std.specs.Prelude.{Bool, IfSome, List}
use Rattle.vrp_canonical.specs.Passing.{IsAnswer}
use Rattle.vrp_canonical.specs.declared.asked.SearchReply.{SearchReply}
use Rattle.vrp_canonical.specs.declared.question.Answered.{Answered}
use Rattle.vrp_canonical.specs.declared.question.Question.{Question}
use Rattle.vrp_partition.specs.declared.route.Route.{Route}

-- this is the answer to the question
abbrev pub Answers : List Route → Question → Bool → Type 0
Answers pool question = IsAnswer pool question.rest question.customer question.low question.high

-- the question is answered as it is
abbrev pub IsRight : List Route → Answered → Type 0
IsRight pool answered = Answers pool answered.question answered.yes

-- so it is, where it is answered
abbrev pub IsReply : List Route → SearchReply → Type 0
IsReply pool reply = IfSome reply.answer (IsRight pool)
