use Rattle.std.proofs.Common.{◌∙◌, map, ap, arith}
use Rattle.std.proofs.lemmas.Grind.{common_steps}
use Rattle.std.proofs.lemmas.Int.{ints}
use Rattle.std.proofs.lemmas.List.{take_all}
use Rattle.vrp_model.specs.Word.{word_of}
use Rattle.vrp_plan_text.specs.Inner.Ordered.{turned}
use Rattle.vrp_plan_text.proofs.reading.lawful.word_of.Goals as goal

pub returns : goal.returns
returns c = (
  map (λ route. route.now.stops.items) c.in_ok-rising.rising.items,
  c.in_ok-rising.ensures,
  c.loop-route.invariant
      ∙ ap (λ l. word_of (map (turned c.args.symmetric) (map (λ route. route.now.stops.items) l))) (take_all c.loop-route.route-index c.deref-route-items.result.now c.loop-route-test.false ∙ c.deref-route-items.ensures.value),
)

pub loop-route-preserved : goal.loop-route-preserved
loop-route-preserved c = grind (ints, arith, common_steps)
