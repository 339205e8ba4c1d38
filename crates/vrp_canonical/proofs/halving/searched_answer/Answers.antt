use Rattle.std.proofs.Common.{◌↔◌, ℕ, Bool, IsTrue, IfOk, IfSome, Ok, Err, Option, None, Some, Result, List, length, sym, subst}
use Rattle.std.specs.declared.alloc.AllocError.{AllocError}
use Rattle.vrp_canonical.specs.Passing.{IsAnswer, IsPart}
use Rattle.vrp_canonical.specs.Reaching.{Reaches}
use Rattle.vrp_canonical.specs.declared.residual.Residual.{Residual}
use Rattle.vrp_partition.specs.declared.route.Route.{Route}
use Rattle.vrp_canonical.proofs.halving.searched_answer.Goals as goal

-- what a search tells of a part is the answer to the question about it
of_part : (told : Result (Option Bool) AllocError) (pool part : List Route) (rest : Residual) (customer low high : ℕ) → IsPart pool rest.unserved customer low high (length pool) part
    → IfOk told (λ answer. IfSome answer (λ reply. IsTrue reply ↔ Reaches part rest.unserved rest.trucks rest.most)) → IfOk told (λ answer. IfSome answer (IsAnswer pool rest customer low high))
of_part (Ok (Some reply)) pool part rest customer low high is tells = (part, is, tells)
of_part (Ok None) pool part rest customer low high is tells = tells
of_part (Err error) pool part rest customer low high is tells = tells

pub returns : goal.returns
returns g c =
    let question = c.args.question.now in
    let is = subst (λ (routes : List Route). IsPart c.args.pool.now question.rest.unserved question.customer question.low question.high (length c.args.pool.now) routes) (sym c.as_slice.ensures.value) c.in_ok-part.ensures in
    of_part c.reaches.result c.args.pool.now c.as_slice.result.now question.rest question.customer question.low question.high is c.reaches.ensures
