use Rattle.std.proofs.Common.{◌∙◌, ◌∷◌, ◌++◌, List, [], ap, take, sym, subst}
use Rattle.std.proofs.lemmas.List.{take_more}
use Rattle.vrp_canonical.proofs.KnownChoices.{Leave, one_more}
use Rattle.vrp_partition.specs.declared.route.Route.{Route}
use Rattle.vrp_canonical.proofs.known.is_choice.Goals as goal

pub loop-route-preserved : goal.loop-route-preserved
loop-route-preserved c =
    let routes = c.args.routes.now in
    let i = c.loop-route.route-index in
    let route = c.route-item.result in
    subst (λ (rs : List Route). Leave c.args.part.now c.args.rest.now rs c.in-Some.next) (sym (take_more routes i route c.loop-route-test.true ∙ ap (λ (r : Route). take i routes ++ r ∷ []) (sym c.route-item.is)))
    (one_more c.args.part.now c.args.rest.now (take i routes) c.loop-route.left c.in-Some.next route c.loop-route.invariant (c.has_route.ensures c.if-not-has_route.false) c.in-Some.ensures.after)
