-- Replies one after the other, and answers added to answers.
use Rattle.std.proofs.Common.{◌≡◌, Some, IfSome, Option, List, ◌∷◌, ◌++◌, [], subst, sym}
use Rattle.std.specs.List.{All}
use Rattle.std.proofs.lemmas.List.Elements.{All-head, All-push, All-tail}
use Rattle.vrp_canonical.specs.Asking.{IsReply, IsRight}
use Rattle.vrp_canonical.specs.declared.asked.SearchReply.{SearchReply}
use Rattle.vrp_canonical.specs.declared.question.Answered.{Answered}
use Rattle.vrp_partition.specs.declared.route.Route.{Route}

pub first_and_rest : {X : Type 0} (P : X → Type 0) (xs rest : List X) (x : X) → All P xs → xs ≡ x ∷ rest → P x × All P rest
first_and_rest P xs rest x all is = (let both = subst (All P) is all in (All-head P x rest both, All-tail P x rest both))

pub right_answer : (pool : List Route) (reply : SearchReply) (answered : Answered) → IsReply pool reply → reply.answer ≡ Some answered → IsRight pool answered
right_answer pool reply answered known some = subst (λ (o : Option Answered). IfSome o (IsRight pool)) some known

pub one_answer_more : (pool : List Route) (old new : List Answered) (answered : Answered) → All (IsRight pool) old → IsRight pool answered → new ≡ old ++ answered ∷ [] → All (IsRight pool) new
one_answer_more pool old new answered right this longer = subst (All (IsRight pool)) (sym longer) (All-push (IsRight pool) old answered right this)
