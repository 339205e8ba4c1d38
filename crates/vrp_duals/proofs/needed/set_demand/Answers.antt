use Rattle.std.proofs.Common.{◌≡◌, ◌+◌, ◌*◌, ◌<◌, ◌∙◌, take, ap, arith}
use Rattle.std.specs.Int.{bit_at}
use Rattle.std.specs.List.{sum_by}
use Rattle.std.proofs.lemmas.List.Sums.{sum_by_push}
use Rattle.vrp_model.specs.Problem.{customers, demand_of, place_count}
use Rattle.vrp_model.proofs.CustomerPlaces.{all_taken, up_to}
use Rattle.vrp_duals.proofs.needed.set_demand.Goals as goal

pub loop-index-preserved : goal.loop-index-preserved
loop-index-preserved c =
    let p = c.args.instance.now in
    let set = c.args.set in
    let i = c.loop-index.index in
    let lt : i + 1 < place_count p = omega (arith, c.loop-index-test.true, c.customers-index-end.ensures.value) in
    let more = ap (sum_by (λ customer. bit_at set customer * demand_of p customer)) (up_to p i lt) ∙ sum_by_push (λ customer. bit_at set customer * demand_of p customer) (take i (customers p)) (i + 1) in
    record {
      value = omega (arith, more, c.demand_inside-demand.ensures.value, c.loop-index.invariant.value);
      small = omega (arith, c.customers-index-end.ensures.problem.small_capacity, c.demand_inside-demand.ensures.small, c.loop-index.invariant.small);
    }

pub returns-clause-value : goal.returns-clause-value
returns-clause-value c =
    let p = c.args.instance.now in
    let set = c.args.set in
    let all : c.loop-index.index ≡ c.customers-index-end.result = omega (arith, c.loop-index-test.false, c.loop-index.auto.index-end) in
    c.loop-index.invariant.value ∙ ap (sum_by (λ customer. bit_at set customer * demand_of p customer)) (ap (λ n. take n (customers p)) all ∙ all_taken p c.customers-index-end.result c.customers-index-end.ensures.value)
