use Rattle.std.proofs.Common.{◌∙◌, ℕ, false, get_or, ap, sym, arith}
use Rattle.std.specs.List.{Contains}
use Rattle.std.proofs.lemmas.List.Elements.{All-contains_itself}
use Rattle.vrp_model.specs.Problem.{customers}
use Rattle.vrp_model.proofs.CustomerPlaces.{customer_below, customer_is_some, is_customer}
use Rattle.vrp_plan_text.proofs.reading.lawful.first_unserved.Goals as goal

pub returns-then-not-served-from : goal.returns-then-not-served-from
returns-then-not-served-from c = (
  is_customer c.args.instance.now c.loop-customer.customer (omega (arith, c.loop-customer.auto.customer)) (omega (arith, c.loop-customer-test.true, c.customers-customer-end.ensures.value)),
  ap (λ (k : ℕ). get_or c.args.served.now k false) (sym c.from.ensures) ∙ c.if-not-served-from.true,
  c.loop-customer.invariant,
)

pub returns : goal.returns
returns c = λ k d within.
    let p = c.args.instance.now in
    let customer = get_or (customers p) k d in
    let known : Contains (customers p) customer = All-contains_itself (customers p) k d within in
    c.loop-customer.invariant customer (customer_is_some p customer known) (omega (arith, customer_below p customer known, c.loop-customer-test.false, c.customers-customer-end.ensures.value))
