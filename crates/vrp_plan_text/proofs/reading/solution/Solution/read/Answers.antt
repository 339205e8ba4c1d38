use Rattle.std.proofs.Common.{◌∙◌, List, subst}
use Rattle.vrp_plan_text.specs.Line.{lines_of}
use Rattle.vrp_plan_text.specs.Inner.Listing.{given_routes}
use Rattle.vrp_plan_text.specs.Inner.Served.{AreFaulty}
use Rattle.vrp_plan_text.specs.declared.reading.route.NonemptyRoute.{NonemptyRoute}
use Rattle.vrp_plan_text.proofs.FaultyRoutes.{lines_are_faulty}
use Rattle.vrp_plan_text.proofs.ReadSolutions.{customers_kept, gives_plan, kept_is_stated, states_other, stops_kept}
use Rattle.vrp_plan_text.proofs.reading.solution.Solution.read.Goals as goal

pub plan_of-requires-clause-customers : goal.plan_of-requires-clause-customers
plan_of-requires-clause-customers c = rw c.deref.ensures.value (customers_kept c.args.instance.now (lines_of c.args.text.now) c.in_ok-listing.listing c.in_ok-listing.ensures.listed)

pub plan_of-requires-clause-stops : goal.plan_of-requires-clause-stops
plan_of-requires-clause-stops c = rw c.deref.ensures.value (stops_kept c.args.instance.now (lines_of c.args.text.now) c.in_ok-listing.listing c.in_ok-listing.ensures.listed)

pub returns-in-Some-clause-read : goal.returns-in-Some-clause-read
returns-in-Some-clause-read c =
    gives_plan c.args.instance.now c.args.text.now c.in_ok-listing.listing c.in-Some.plan c.in_ok-listing.ensures.listed (rw (c.in-Some.is, c.deref.ensures.value) at c.in_ok-plan.ensures.routes) (rw c.in-Some.is at c.in_ok-plan.ensures.lawful)

pub returns-in-Some-clause-other_cost : goal.returns-in-Some-clause-other_cost
returns-in-Some-clause-other_cost c =
    states_other c.args.instance.now c.args.text.now c.in_ok-listing.listing c.cost.result c.in-Some.plan.cost c.states_other_cost-states_other_cost.result c.in_ok-listing.ensures.listed c.cost.ensures c.states_other_cost-states_other_cost.ensures

pub returns-in-Some-clause-stated : goal.returns-in-Some-clause-stated
returns-in-Some-clause-stated c = c.stated_cost-stated_cost.ensures ∙ kept_is_stated c.args.instance.now c.args.text.now c.in_ok-listing.listing c.in_ok-listing.ensures.listed

pub refusal_of-requires-clause-customers : goal.refusal_of-requires-clause-customers
refusal_of-requires-clause-customers c = rw c.deref-in-None.ensures.value (customers_kept c.args.instance.now (lines_of c.args.text.now) c.in_ok-listing.listing c.in_ok-listing.ensures.listed)

pub refusal_of-requires-clause-stops : goal.refusal_of-requires-clause-stops
refusal_of-requires-clause-stops c = rw c.deref-in-None.ensures.value (stops_kept c.args.instance.now (lines_of c.args.text.now) c.in_ok-listing.listing c.in_ok-listing.ensures.listed)

pub returns-clause-refused : goal.returns-clause-refused
returns-clause-refused c = λ differs.
    let p = c.args.instance.now in
    lines_are_faulty p (lines_of c.args.text.now) c.in_ok-listing.listing c.in_ok-refusal_of-in-None.field-0 c.in_ok-listing.ensures.listed
    (subst (λ (l : List NonemptyRoute). AreFaulty p (given_routes l) c.in_ok-refusal_of-in-None.field-0) c.deref-in-None.ensures.value c.in_ok-refusal_of-in-None.ensures)
