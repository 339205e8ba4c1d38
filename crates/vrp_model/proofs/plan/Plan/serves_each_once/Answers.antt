use Rattle.std.proofs.Common.{◌≡◌, ◌+◌, ◌<◌, ℕ, true, List, length, ap, refl, ◌∙◌, arith}
use Rattle.std.specs.List.{concat}
use Rattle.vrp_model.specs.Problem.{place_count}
use Rattle.vrp_model.specs.Word.{stands_in, word_of}
use Rattle.vrp_model.proofs.CustomerPlaces.{is_customer}
use Rattle.vrp_model.proofs.FittingPlans.{as_many_stops, each_stands, serves_each}
use Rattle.vrp_model.proofs.Words.{length_of_word}
use Rattle.vrp_model.proofs.plan.Plan.serves_each_once.Goals as goal

pub overflow_sub-word : goal.overflow_sub-word
overflow_sub-word c =
    let routes = c.args.self.now.routes in
    omega (arith, ap length c.word-word.ensures.value, length_of_word routes, c.routes.ensures)

pub returns-then-word-routes-clause-served : goal.returns-then-word-routes-clause-served
returns-then-word-routes-clause-served c =
    let p = c.args.instance.now in
    let routes = c.args.self.now.routes in (
      λ never. absurd (cc),
      λ served. absurd (omega (arith, ap length c.word-word.ensures.value, length_of_word routes, c.routes.ensures, as_many_stops p routes served, c.customers-customers.ensures.value, c.from.ensures, c.if-word-routes.true)),
    )

pub returns-then-not-contains-clause-served : goal.returns-then-not-contains-clause-served
returns-then-not-contains-clause-served c =
    let p = c.args.instance.now in
    let routes = c.args.self.now.routes in
    let customer = c.loop-index.index + 1 in (
      λ never. absurd (cc),
      λ served. absurd (
          let below : customer < place_count p = omega (arith, c.customers-customers.ensures.value, c.loop-index-test.true) in
          let stands : stands_in (word_of routes) customer ≡ true = each_stands p routes customer served (is_customer p customer (omega arith) below) in
          let tested : c.contains.result ≡ stands_in (word_of routes) customer = c.contains.ensures.value ∙ ap (λ (word : List ℕ). stands_in word customer) c.word-word.ensures.value in
          cc),
    )

pub returns-clause-served : goal.returns-clause-served
returns-clause-served c =
    let p = c.args.instance.now in
    let routes = c.args.self.now.routes in
    let many : length (concat routes) + 1 ≡ place_count p = omega (arith, ap length c.word-word.ensures.value, length_of_word routes, c.routes.ensures, c.customers-customers.ensures.value, c.from.ensures, c.if-word-routes.false) in (
      λ yes. serves_each p routes many (λ k some below. c.loop-index.invariant k some (omega (arith, below, c.customers-customers.ensures.value, c.loop-index-test.false))),
      λ served. refl,
    )
