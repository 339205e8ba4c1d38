use Rattle.std.proofs.Common.{◌≡◌, ◌+◌, ◌*◌, length, sym, subst, ◌∙◌, arith}
use Rattle.std.proofs.lemmas.Grind.{common_steps}
use Rattle.vrp_model.specs.Problem.{Problem, place_count}
use Rattle.vrp_bound_prices.specs.Inner.Arcs.{ArePricedArcs}
use Rattle.vrp_bound_prices.specs.Priced.{IsPriced, price_in, rebate_in, rewards_of}
use Rattle.vrp_bound_prices.proofs.MadeRelaxation.{by_prices, kept_when_made, priced_when_made}
use Rattle.vrp_bound_prices.proofs.relaxation.Relaxation.new.Goals as goal

pub returns-then-not-are_moderate-clause-none : goal.returns-then-not-are_moderate-clause-none
returns-then-not-are_moderate-clause-none c = λ lawful _.
    c.are_moderate.ensures.unlawful c.if-not-are_moderate.true c.args.scale c.requires.small_scale lawful

pub invariant_of-result : goal.invariant_of-result
invariant_of-result c =
    let p = c.args.instance.now in
    let weights = c.in-Some.weights.items in
    let square : length weights ≡ place_count p * place_count p = grind (arith, common_steps) ∙ (rw c.in-Some.is at c.in_ok-weights.ensures.square) in
    let arcs : ArePricedArcs p c.args.scale c.args.prices.now c.args.cuts.now weights = rw c.in-Some.is at c.in_ok-weights.ensures.arcs in
    let made = priced_when_made p c.args.unit c.args.scale c.args.prices.now c.args.cuts.now weights c.in_ok-demands.demands.items c.capacity_in_units-capacity.result c.requires.some_unit c.requires.some_scale square arcs c.requires.cuts c.in_ok-demands.ensures.empty_depot c.in_ok-demands.ensures.units c.capacity_in_units-capacity.ensures in
    let priced = subst (λ (q : Problem). IsPriced p q c.args.unit c.args.scale (price_in c.args.prices.now) (rebate_in c.args.prices.now) c.args.cuts.now) (sym c.in_ok-relaxed.ensures) made in
    let rewarded : c.rebate_rewards.result + c.cut_rewards.result ≡ rewards_of p (rebate_in c.args.prices.now) c.args.cuts.now = omega (arith, c.rebate_rewards.ensures.value, c.cut_rewards.ensures.value) in
    kept_when_made p c.in_ok-relaxed.relaxed c.args.unit c.args.scale c.charges.result (c.rebate_rewards.result + c.cut_rewards.result) c.args.prices.now c.args.cuts.now c.are_moderate.ensures.problem priced c.charges.ensures.value rewarded c.requires.some_scale c.requires.small_scale c.charges.ensures.small (omega (arith, c.rebate_rewards.ensures.small, c.cut_rewards.ensures.small))

pub returns-clause-priced : goal.returns-clause-priced
returns-clause-priced c =
    let p = c.args.instance.now in
    let weights = c.in-Some.weights.items in
    let square : length weights ≡ place_count p * place_count p = grind (arith, common_steps) ∙ (rw c.in-Some.is at c.in_ok-weights.ensures.square) in
    let arcs : ArePricedArcs p c.args.scale c.args.prices.now c.args.cuts.now weights = rw c.in-Some.is at c.in_ok-weights.ensures.arcs in
    let made = priced_when_made p c.args.unit c.args.scale c.args.prices.now c.args.cuts.now weights c.in_ok-demands.demands.items c.capacity_in_units-capacity.result c.requires.some_unit c.requires.some_scale square arcs c.requires.cuts c.in_ok-demands.ensures.empty_depot c.in_ok-demands.ensures.units c.capacity_in_units-capacity.ensures in
    let priced = subst (λ (q : Problem). IsPriced p q c.args.unit c.args.scale (price_in c.args.prices.now) (rebate_in c.args.prices.now) c.args.cuts.now) (sym c.in_ok-relaxed.ensures) made in
    let rewarded : c.rebate_rewards.result + c.cut_rewards.result ≡ rewards_of p (rebate_in c.args.prices.now) c.args.cuts.now = omega (arith, c.rebate_rewards.ensures.value, c.cut_rewards.ensures.value) in
    by_prices p c.in_ok-relaxed.relaxed c.args.unit c.args.scale c.charges.result (c.rebate_rewards.result + c.cut_rewards.result) c.args.prices.now c.args.cuts.now priced c.charges.ensures.value rewarded
