use Rattle.std.proofs.Common.{◌∙◌, pos, Ok, List, ◌∷◌, ◌++◌, ap, subst, sym}
use Rattle.std.proofs.lemmas.Result.{err_from_is_err_and}
use Rattle.vrp_plan_text.specs.Line.{Number, Route, line_of}
use Rattle.vrp_plan_text.specs.Solution.{HaveFault}
use Rattle.vrp_plan_text.specs.Inner.Read.{number_stated, stops_written}
use Rattle.vrp_plan_text.proofs.ListingLemmas.{cost_has_bytes, if_err, keep_cost, keep_route, on_ok, repeated_cost, route_has_bytes, stop_fault, wrong_has_bytes, wrong_line}
use Rattle.vrp_plan_text.proofs.reading.listing.ListedPlan.add_line.Goals as goal

pub returns-in_err-stops-in-Ok-Route-clause-refused : goal.returns-in_err-stops-in-Ok-Route-clause-refused
returns-in_err-stops-in-Ok-Route-clause-refused c =
    let p = c.args.instance.now in
    let text = c.args.text.now in
    let written = stops_written c.in-Ok-Route.stops in
    let exit = err_from_is_err_and c.from_residual.result c.from_residual.ensures.1 in
    rw (exit.1, exit.2) (λ differs lines more keeps numbered.
    stop_fault p lines more (line_of text) c.args.self.now c.args.number c.in-Ok-Route.route written _ keeps (rw c.in-Ok-Route.field-0-is at c.in-Ok-Route.ensures) (numbered (route_has_bytes text (Ok (pos c.in-Ok-Route.route)) written (rw c.in-Ok-Route.field-0-is at c.in-Ok-Route.ensures))) (c.in_err-stops-in-Ok-Route.ensures.refused differs))

pub returns-in-Ok-Cost-clause-added : goal.returns-in-Ok-Cost-clause-added
returns-in-Ok-Cost-clause-added c =
    on_ok c.add_cost.result _ _ (λ added lines keeps. keep_cost c.args.instance.now lines (line_of c.args.text.now) c.in-Ok-Cost.cost c.args.self.now c.add_cost.new.self (rw c.in-Ok-Cost.field-0-is at c.in-Ok-Cost.ensures) added keeps) c.add_cost.ensures.added

pub returns-in-Ok-Cost-clause-refused : goal.returns-in-Ok-Cost-clause-refused
returns-in-Ok-Cost-clause-refused c =
    let p = c.args.instance.now in
    let text = c.args.text.now in
    let cost = number_stated c.in-Ok-Cost.cost in
    if_err c.add_cost.result _ _ (λ refused told differs lines more keeps numbered.
    subst (HaveFault p (lines ++ line_of text ∷ more)) (sym told.0) (repeated_cost p lines more (line_of text) c.args.self.now c.args.number told.1.0 c.in-Ok-Cost.cost keeps told.1.1 (rw c.in-Ok-Cost.field-0-is at c.in-Ok-Cost.ensures) (numbered (cost_has_bytes text cost (rw c.in-Ok-Cost.field-0-is at c.in-Ok-Cost.ensures))))) c.add_cost.ensures.refused

pub returns-in_ok-stops-in-Ok-Route-clause-added : goal.returns-in_ok-stops-in-Ok-Route-clause-added
returns-in_ok-stops-in-Ok-Route-clause-added c =
    let stops = c.in_ok-stops-in-Ok-Route.stops.items in
    let is = (rw c.in-Ok-Route.field-0-is at c.in-Ok-Route.ensures) ∙ ap (λ (l : List Number). Route (Ok (pos c.in-Ok-Route.route)) l) c.in_ok-stops-in-Ok-Route.ensures.stops in
    on_ok c.add_route.result _ _ (λ added lines keeps. keep_route c.args.instance.now lines (line_of c.args.text.now) c.in-Ok-Route.route stops c.args.self.now c.add_route.new.self is c.in_ok-stops-in-Ok-Route.ensures.customers added keeps) c.add_route.ensures.added

pub returns-in-Err-clause-refused : goal.returns-in-Err-clause-refused
returns-in-Err-clause-refused c =
    let p = c.args.instance.now in
    let text = c.args.text.now in
    λ differs lines more keeps numbered.
    subst (HaveFault p (lines ++ line_of text ∷ more)) (sym c.refused.ensures) (wrong_line p lines more (line_of text) c.args.self.now c.args.number c.in-Err.error keeps (numbered (wrong_has_bytes text c.in-Err.error c.in-Err.ensures)) c.in-Err.ensures)
