use Rattle.std.proofs.Common.{◌<◌, ◌≡◌, ◌∙◌, ℕ, Bool, false, true, List, ◌++◌, length, get_or, take, drop, subst, sym, arith}
use Rattle.std.specs.List.{All}
use Rattle.std.proofs.lemmas.Grind.{common_steps}
use Rattle.std.proofs.lemmas.Int.{ints}
use Rattle.std.proofs.Math.Seq.{take-append_seam}
use Rattle.vrp_model.specs.Problem.{customers}
use Rattle.vrp_plan_text.specs.Inner.Listing.{given_routes}
use Rattle.vrp_plan_text.specs.Inner.Served.{AreFaulty}
use Rattle.vrp_plan_text.proofs.FaultyRoutes.{not_served, too_many}
use Rattle.vrp_plan_text.proofs.reading.lawful.refusal_of.Goals as goal
use Rattle.vrp_plan_text.proofs.reading.lawful.refusal_of.Goals.{in-Some-first_unserved, in-None}

-- a list in whose stead another of its length was written
written_over : (old new : List Bool) (len : ℕ) → length new ≡ len → take len (new ++ drop (length new) old) ≡ new
written_over old new len long = rw (← long) (take-append_seam new (drop (length new) old))

pub returns : goal.returns
returns c =
    let p = c.args.instance.now in
    let routes = c.args.routes.now in
    let served = c.in_default.ensures in
    let new = c.faulty_route.new.served in
    let long : length new ≡ c.in_ok-served.served.len = omega (arith, served.places, c.in_ok-served.ensures.len, c.from.ensures, c.customers.ensures.value) in
    let flags : c.as_slice.result.now ≡ new = c.as_slice.ensures.value ∙ written_over c.in_ok-served.served.items new c.in_ok-served.served.len long in
    elim c.match-first_unserved.branch [
      | in-Some-first_unserved w ↦
          let told = w.in-Some-first_unserved.ensures in
          subst (AreFaulty p (given_routes routes)) (sym w.result-is)
          (not_served p routes new w.in-Some-first_unserved.customer served told.0 (subst (λ (l : List Bool). get_or l w.in-Some-first_unserved.customer false ≡ false) flags told.1) (subst (λ (l : List Bool). (k : ℕ) → 0 < k → k < w.in-Some-first_unserved.customer → get_or l k false ≡ true) flags told.2))
      | in-None w ↦
          subst (AreFaulty p (given_routes routes)) (sym w.result-is)
          (too_many p routes new served c.requires.customers c.requires.stops (subst (λ (l : List Bool). All (λ k. get_or l k false ≡ true) (customers p)) flags w.in-None.ensures) c.requires.refused)
    ]

pub faulty_route-requires-clause-none : goal.faulty_route-requires-clause-none
faulty_route-requires-clause-none c = grind (ints, arith, common_steps)
