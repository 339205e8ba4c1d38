use Rattle.std.proofs.Common.{◌≡◌, ◌+◌, ◌<◌, ◌≤◌, ◌⊎◌, ◌∷◌, ◌++◌, [], bit_and, inl, inr, Vec, Global, sym, ap, subst, ◌∙◌, arith}
use Rattle.std.proofs.lemmas.Bool.{false≢true}
use Rattle.std.proofs.lemmas.Grind.{common_steps}
use Rattle.std.proofs.lemmas.Int.{ints}
use Rattle.std.specs.Int.{bit_at}
use Rattle.vrp_canonical.specs.Passing.{IsPart, route_in}
use Rattle.vrp_canonical.proofs.Narrowing.{part_with, part_without}
use Rattle.vrp_canonical.proofs.SetTests.{route_read}
use Rattle.vrp_partition.specs.declared.route.Route.{Route}
use Rattle.vrp_canonical.proofs.part.part_of.Goals as goal
use Rattle.vrp_canonical.proofs.part.part_of.Goals.{then-keeps+in_ok-push, else-keeps}

pub loop-index-preserved : goal.loop-index-preserved
loop-index-preserved c =
    let pool = c.args.pool.now in
    let question = c.args.question.now in
    let i = c.loop-index.index in
    let route = c.index-pool-index.result in
    let here : route ≡ route_in pool i = route_read pool i route (omega (arith, c.loop-index-test.true)) c.index-pool-index.is in
    let part = c.loop-index.part.items in
    elim c.if-keeps.branch [
      | then-keeps+in_ok-push w ↦
          let kept : ((question.low ≤ i) × (i < question.high)) ⊎ (bit_at (route_in pool i).set question.customer ≡ 0) =
          elim (c.keeps.ensures.yes w.if-keeps.true) [ inl below ↦ inl (c.keeps.ensures.from w.if-keeps.true, below) | inr lacks ↦ inr (subst (λ (r : Route). bit_at r.set question.customer ≡ 0) here lacks) ] in
          let pushed = w.index-pool-index-then-keeps.result in
          let last : pushed ≡ route_in pool i = route_read pool i pushed (omega (arith, c.loop-index-test.true)) w.index-pool-index-then-keeps.is in
          subst (IsPart pool question.rest.unserved question.customer question.low question.high (i + 1)) (sym (ap (λ (v : Vec Route Global). v.items) w.part-is ∙ w.in_ok-push.ensures.items ∙ ap (λ (r : Route). part ++ r ∷ []) last))
          (part_with pool question.rest.unserved question.customer question.low question.high i part c.loop-index-test.true c.loop-index.invariant kept)
      | else-keeps w ↦
          subst (IsPart pool question.rest.unserved question.customer question.low question.high (i + 1)) (sym (ap (λ (v : Vec Route Global). v.items) w.part-is))
          (part_without pool question.rest.unserved question.customer question.low question.high i part c.loop-index.invariant
          (λ from inside which.
          let own : bit_and route.set question.rest.unserved ≡ route.set = subst (λ (r : Route). bit_and r.set question.rest.unserved ≡ r.set) (sym here) inside in
          let apart : (i < question.high) ⊎ (bit_at route.set question.customer ≡ 0) = subst (λ (r : Route). (i < question.high) ⊎ (bit_at r.set question.customer ≡ 0)) (sym here) which in
          false≢true (sym w.if-keeps.false ∙ c.keeps.ensures.no from own apart)))
    ]

pub returns : goal.returns
returns c = grind (ints, arith, common_steps)
