use Rattle.vrp_model.specs.Word.{word_of}
use Rattle.vrp_model.proofs.Ordered.{before_irreflexive, before_transitive}
use Rattle.vrp_model.proofs.law.order_is_strict.Goals as goal

pub returns-clause-irreflexive : goal.returns-clause-irreflexive
returns-clause-irreflexive c = λ plan. before_irreflexive plan.cost (word_of plan.routes)

pub returns-clause-transitive : goal.returns-clause-transitive
returns-clause-transitive c = λ plan other third. before_transitive plan.cost (word_of plan.routes) other.cost (word_of other.routes) third.cost (word_of third.routes)
