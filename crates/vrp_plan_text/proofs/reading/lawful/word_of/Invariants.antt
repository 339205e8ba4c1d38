use Rattle.std.proofs.Common.{◌≡◌, map, take}
use Rattle.vrp_model.specs.Word.{word_of}
use Rattle.vrp_plan_text.specs.Inner.Ordered.{turned}
use Rattle.vrp_plan_text.proofs.reading.lawful.word_of.Given as goal

abbrev pub invariant-loop-route : goal.invariant-loop-route
invariant-loop-route l = l.word.items ≡ word_of (map (turned l.symmetric) (map (λ route. route.now.stops.items) (take l.route-index l.route-items)))
