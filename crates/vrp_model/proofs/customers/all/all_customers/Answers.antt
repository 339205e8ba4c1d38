use Rattle.std.proofs.Common.{◌≡◌, ◌+◌, ◌^◌, ◌<◌, bit_or, take, sym, ap, ◌∙◌, arith}
use Rattle.vrp_model.specs.Problem.{customers, place_count}
use Rattle.vrp_model.proofs.CustomerPlaces.{all_taken, up_to}
use Rattle.vrp_model.specs.CustomerSet.{set_of}
use Rattle.vrp_model.proofs.Sets.{set_with}
use Rattle.vrp_model.proofs.customers.all.all_customers.Goals as goal

pub loop-index-preserved : goal.loop-index-preserved
loop-index-preserved c =
    let p = c.args.instance.now in
    let i = c.loop-index.index in
    let lt : i + 1 < place_count p = omega (arith, c.loop-index-test.true, c.customers-index-end.ensures.value) in
    c.with-set.ensures ∙ ap (λ n. bit_or n (2 ^ (i + 1))) c.loop-index.invariant ∙ sym (set_with (take i (customers p)) (i + 1)) ∙ ap set_of (sym (up_to p i lt))

pub returns-clause-value : goal.returns-clause-value
returns-clause-value c =
    let p = c.args.instance.now in
    c.loop-index.invariant ∙ ap set_of (ap (λ n. take n (customers p)) (let e : c.loop-index.index ≡ c.customers-index-end.result = omega (arith, c.loop-index-test.false, c.loop-index.auto.index-end) in e) ∙ all_taken p c.customers-index-end.result c.customers-index-end.ensures.value)
