use Rattle.std.proofs.Common.{◌≡◌, true, arith}
use Rattle.vrp_model.specs.Problem.{place_count}
use Rattle.vrp_model.proofs.OneRoute.{joined_word}
use Rattle.test_fixtures.proofs.plans.joined.Goals as goal
use Rattle.test_fixtures.proofs.plans.joined.Goals.{else-first-eq2-via-then-first-eq2+else-symmetric, else-first-eq2-via-else-first-eq2}

pub of_word-requires : goal.of_word-requires
of_word-requires c =
    let p = c.args.instance.now in
    let three : place_count p ≡ 3 = omega (arith, c.customers.ensures.value, c.customers.ensures.problem.some_places) in
    joined_word p c.args.first c.customers.ensures.problem three (omega arith) (omega arith) (omega (arith, c.demand.ensures.value, c.demand-2.ensures.value, c.capacity.ensures.value)) (λ symmetric. elim c.else-first-eq2.branch [
      | else-first-eq2-via-then-first-eq2+else-symmetric w ↦ absurd (let told : w.symmetric.result ≡ true = w.symmetric.ensures.1 symmetric in cc)
      | else-first-eq2-via-else-first-eq2 w ↦ omega arith
    ])
