use Rattle.std.proofs.Common.{◌≡◌, ◌≢◌, ◌∙◌, ℕ, ℤ, neg_ℤ, ◌<◌, pos, Ok, [], ◌∷◌, ap, sym, subst, refl, inl, inr, rules, arith, to_z, of_z, w64}
use lib.IntN.{nat_abs}
use Rattle.std.specs.List.{Contains}
use Rattle.std.proofs.lemmas.Int.{ints}
use Rattle.std.proofs.lemmas.List.Elements.{All-push}
use Rattle.vrp_model.specs.Problem.{customers, place_count}
use Rattle.vrp_model.proofs.CustomerPlaces.{is_customer}
use Rattle.vrp_text.specs.Numeral.{number_of}
use Rattle.vrp_plan_text.specs.Line.{Number}
use Rattle.vrp_plan_text.specs.Inner.Listing.{IsStopFault, fault_at}
use Rattle.vrp_plan_text.specs.Solution.{AreCustomers}
use Rattle.vrp_plan_text.specs.Inner.Read.{stops_written}
use Rattle.vrp_plan_text.specs.declared.reading.error.SolutionError.TheVariants as error
use Rattle.vrp_plan_text.specs.declared.reading.line.TheConstants.{MAX_NUMBER}
use Rattle.vrp_plan_text.proofs.StopLemmas.{above_customers, below_customers, follows, stop_read}
use Rattle.vrp_plan_text.proofs.reading.listing.read_stops.Goals as goal
use Rattle.vrp_plan_text.proofs.reading.listing.read_stops.Goals.{then-customer-lt1-via-then-customer-lt1, then-customer-lt1-via-else-customer-lt1+then-from-customer}

pub returns-then-customer-lt1-clause-refused : goal.returns-then-customer-lt1-clause-refused
returns-then-customer-lt1-clause-refused c =
    let p = c.args.instance.now in
    let stop = c.in-Ok.customer in
    let number = c.in-Ok.ensures.value in
    let within = c.in-Ok.ensures.in_range in
    let stays : to_z w64 (of_z w64 stop) ≡ stop = search rules in
    let none : (customer : ℕ) → Contains (customers p) customer → stop ≢ pos customer =
    elim c.then-customer-lt1.branch [
      | then-customer-lt1-via-then-customer-lt1 w ↦ below_customers p stop (omega (arith, ints, stays))
      | then-customer-lt1-via-else-customer-lt1+then-from-customer w ↦ above_customers p stop w.customers.result w.customers.ensures.value (omega (arith, ints, stays, w.if-from-customer.true, w.from.ensures))
    ] in
    λ differs. subst (λ (z : ℤ). IsStopFault p c.args.line c.args.route (stops_written c.args.tokens) (error.NotACustomer c.args.route z)) (sym stays)
    (inr (stop, refl, follows p c.args.tokens c.loop-token.tokens c.next.new.self c.in-Some.token.now c.loop-token.stops.items (Ok stop) c.loop-token.invariant.written c.loop-token.invariant.customers c.in-Some.ensures (ap (λ (r : Number). r ∷ []) number), none))

pub loop-token-preserved : goal.loop-token-preserved
loop-token-preserved c =
    let p = c.args.instance.now in
    let stop = c.in-Ok.customer in
    let number = c.in-Ok.ensures.value in
    let within = c.in-Ok.ensures.in_range in
    let pushed = c.in_ok-push.ensures.items in
    let stays : to_z w64 (of_z w64 stop) ≡ stop = search rules in
    let k = nat_abs (to_z w64 (of_z w64 stop)) in
    let same : stop ≡ pos k = search rules in
    let some : 0 < k = omega (arith, ints, stays, same, c.if-customer-lt1.false) in
    let few : k < place_count p = omega (arith, ints, stays, same, c.if-from-customer.false, c.from.ensures, c.customers.ensures.value) in
    record {
      written = stop_read c.args.tokens c.loop-token.tokens c.next.new.self c.in-Some.token.now c.loop-token.stops.items c.push.new.self.items k c.loop-token.invariant.written c.in-Some.ensures (ap (λ (r : Number). r ∷ []) (number ∙ ap Ok same)) pushed;
      customers = subst (AreCustomers p) (sym pushed) (All-push (Contains (customers p)) c.loop-token.stops.items k c.loop-token.invariant.customers (is_customer p k some few));
    }

pub returns-in-Err-clause-refused : goal.returns-in-Err-clause-refused
returns-in-Err-clause-refused c =
    let p = c.args.instance.now in
    let value = number_of (neg_ℤ MAX_NUMBER) MAX_NUMBER c.in-Some.token.now in
    let told = c.refused.ensures ∙ ap (fault_at c.args.line) c.in-Err.ensures.value.0 in
    λ differs. inl (told, (value, c.in-Err.ensures.value.1, follows p c.args.tokens c.loop-token.tokens c.next.new.self c.in-Some.token.now c.loop-token.stops.items value c.loop-token.invariant.written c.loop-token.invariant.customers c.in-Some.ensures refl))
