use Rattle.std.proofs.Common.{◌≡◌, ◌∙◌, ◌-◌, ◌≤◌, length, sym, arith}
use Rattle.std.proofs.lemmas.List.FromFn.{length-range_with_len}
use Rattle.vrp_model.specs.Problem.{customers, place_count}
use Rattle.vrp_model.proofs.FewTrucks.{same_number}
use Rattle.vrp_model.proofs.plan.Plan.singles.Goals.{in_default-via-in-Some+else-trucks-customers, in_default-via-in_default}
use Rattle.vrp_model.proofs.plan.Plan.singles.Goals as goal

pub one_each-requires : goal.one_each-requires
one_each-requires c trucks is =
    let p = c.args.instance.now in
    let long : length (customers p) ≡ place_count p - 1 = length-range_with_len 1 (place_count p - 1) in
    elim c.in_default.branch [
      | in_default-via-in-Some+else-trucks-customers w ↦
          omega (arith, long, w.customers.ensures.value, w.if-trucks-customers.false, same_number w.in-Some.trucks trucks (sym w.in-Some.is ∙ c.trucks.ensures.value ∙ is))
      | in_default-via-in_default w ↦ absurd (w.in_default.not-Some trucks (c.trucks.ensures.value ∙ is))
    ]

pub returns-in-Some-clause-some : goal.returns-in-Some-clause-some
returns-in-Some-clause-some c =
    let p = c.args.instance.now in
    let long : length (customers p) ≡ place_count p - 1 = length-range_with_len 1 (place_count p - 1) in (
      λ never. absurd (cc),
      λ may. absurd (
          let here : length (customers p) ≤ c.in-Some.trucks = may c.in-Some.trucks (sym c.trucks.ensures.value ∙ c.in-Some.is) in
          omega (arith, here, long, c.customers.ensures.value, c.if-trucks-customers.true)),
    )
