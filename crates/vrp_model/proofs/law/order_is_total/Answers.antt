use Rattle.vrp_model.specs.Word.{word_of}
use Rattle.vrp_model.proofs.Ordered.{before_total}
use Rattle.vrp_model.proofs.law.order_is_total.Goals as goal

pub returns : goal.returns
returns c = λ plan other. before_total plan.cost (word_of plan.routes) other.cost (word_of other.routes)
