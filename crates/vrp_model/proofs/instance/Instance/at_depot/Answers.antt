use Rattle.std.proofs.Common.{◌≡◌, ◌*◌, ◌<◌, ℕ, None, List, length, map, ap, sym, ◌∙◌, subst}
use Rattle.std.specs.Prelude.{◌↔◌, IsTrue, slice_index}
use Rattle.vrp_model.specs.Inner.LeastArcs.{IsLeastArc}
use Rattle.vrp_model.specs.Inner.Symmetry.{IsSymmetricSquare}
use Rattle.vrp_model.specs.Problem.{Problem}
use Rattle.vrp_model.specs.Request.{node_demand, weights_among}
use Rattle.vrp_model.proofs.LeastArcLemmas.{least_arcs_are}
use Rattle.vrp_model.proofs.InstanceLemmas.{IsProblem-made, places_few, places_within, problem_made}
use Rattle.vrp_model.proofs.instance.Instance.at_depot.Goals as goal

pub invariant_of-result : goal.invariant_of-result
invariant_of-result c =
    let places = c.in_ok-nodes.nodes.items in
    let weights = c.in_ok-weights.weights.items in
    let square : length weights ≡ length places * length places = sym c.in_ok-weights.weights.ok.0 ∙ c.in_ok-weights.ensures.square ∙ ap (λ (ns : List ℕ). length ns * length ns) c.deref.ensures.value in
    let problem = IsProblem-made c.args.depots.now c.args.demands.now places weights c.args.depot c.args.capacity c.nodes.result c.in_ok-nodes.ensures (c.nodes.ensures.value ∙ sym c.requires.one_demand_each) c.nodes.ensures.few (rw c.nodes.ensures.value c.requires.within) c.requires.acceptable.depots_empty c.requires.acceptable.chosen_listed c.requires.acceptable.customers_fit square c.in_ok-weights.ensures.small c.requires.small_capacity in
    let made : Problem = record { nodes = places; demands = c.in_ok-demands.demands.items; weights = weights; capacity = c.args.capacity; trucks = None } in
    let least = c.in_ok-least_in.least_in.items in
    let count : c.len.result ≡ length places = c.len.ensures ∙ c.in_ok-nodes.nodes.ok.0 in
    let one_each : length least ≡ c.len.result = sym c.in_ok-least_in.least_in.ok.0 ∙ c.in_ok-least_in.ensures.all in
    let each = subst (λ (ws : List ℕ). (to : ℕ) → to < c.len.result → IsLeastArc ws c.len.result to (slice_index least to)) c.deref-3.ensures.value c.in_ok-least_in.ensures.each in
    let told = subst (λ (ws : List ℕ). IsTrue c.is_symmetric-symmetric.result ↔ IsSymmetricSquare ws (length places)) c.deref-4.ensures.value
    (subst (λ n. IsTrue c.is_symmetric-symmetric.result ↔ IsSymmetricSquare c.deref-4.result.now n) (c.len-2.ensures ∙ c.in_ok-nodes.nodes.ok.0) c.is_symmetric-symmetric.ensures) in
    record {
      problem = rw (c.in_ok-demands.ensures, c.deref-2.ensures.value) problem;
      least = least_arcs_are made least c.len.result count one_each (rw count problem.some_places) each;
      told = told;
    }

pub places-requires-clause-listed : goal.places-requires-clause-listed
places-requires-clause-listed c = c.requires.acceptable.chosen_listed

pub weights_between-requires-clause-few : goal.weights_between-requires-clause-few
weights_between-requires-clause-few c =
    rw c.deref.ensures.value (places_few c.args.depots.now c.in_ok-nodes.nodes.items c.args.depot c.nodes.result c.args.weights.now.nodes c.in_ok-nodes.ensures c.nodes.ensures.value c.requires.within c.nodes.ensures.few)

pub weights_between-requires-clause-from_one : goal.weights_between-requires-clause-from_one
weights_between-requires-clause-from_one c = rw c.deref.ensures.value c.in_ok-nodes.ensures.from_one

pub weights_between-requires-clause-within : goal.weights_between-requires-clause-within
weights_between-requires-clause-within c =
    rw c.deref.ensures.value (places_within c.args.depots.now c.in_ok-nodes.nodes.items c.args.depot c.nodes.result c.args.weights.now.nodes c.in_ok-nodes.ensures c.nodes.ensures.value c.requires.within)

pub demands_of-requires-clause-from_one : goal.demands_of-requires-clause-from_one
demands_of-requires-clause-from_one c = rw c.deref-2.ensures.value c.in_ok-nodes.ensures.from_one

pub demands_of-requires-clause-within : goal.demands_of-requires-clause-within
demands_of-requires-clause-within c =
    rw c.deref-2.ensures.value (places_within c.args.depots.now c.in_ok-nodes.nodes.items c.args.depot c.nodes.result (length c.args.demands.now) c.in_ok-nodes.ensures (c.nodes.ensures.value ∙ sym c.requires.one_demand_each) (rw c.requires.one_demand_each c.requires.within))

pub least_arcs-requires-clause-square : goal.least_arcs-requires-clause-square
least_arcs-requires-clause-square c =
    let same : length c.deref.result.now ≡ c.len.result = ap length c.deref.ensures.value ∙ sym c.in_ok-nodes.nodes.ok.0 ∙ sym c.len.ensures in
    ap length c.deref-3.ensures.value ∙ sym c.in_ok-weights.weights.ok.0 ∙ c.in_ok-weights.ensures.square ∙ ap (λ k. k * k) same

pub least_arcs-requires-clause-few : goal.least_arcs-requires-clause-few
least_arcs-requires-clause-few c =
    rw (c.len.ensures, c.in_ok-nodes.nodes.ok.0) (places_few c.args.depots.now c.in_ok-nodes.nodes.items c.args.depot c.nodes.result c.args.weights.now.nodes c.in_ok-nodes.ensures c.nodes.ensures.value c.requires.within c.nodes.ensures.few)

pub is_symmetric-symmetric-requires-clause-square : goal.is_symmetric-symmetric-requires-clause-square
is_symmetric-symmetric-requires-clause-square c =
    let same : length c.deref.result.now ≡ c.len-2.result = ap length c.deref.ensures.value ∙ sym c.in_ok-nodes.nodes.ok.0 ∙ sym c.len-2.ensures in
    ap length c.deref-4.ensures.value ∙ sym c.in_ok-weights.weights.ok.0 ∙ c.in_ok-weights.ensures.square ∙ ap (λ k. k * k) same

pub is_symmetric-symmetric-requires-clause-few : goal.is_symmetric-symmetric-requires-clause-few
is_symmetric-symmetric-requires-clause-few c =
    rw (c.len-2.ensures, c.in_ok-nodes.nodes.ok.0) (places_few c.args.depots.now c.in_ok-nodes.nodes.items c.args.depot c.nodes.result c.args.weights.now.nodes c.in_ok-nodes.ensures c.nodes.ensures.value c.requires.within c.nodes.ensures.few)

pub returns : goal.returns
returns c =
    problem_made c.args.weights.now c.args.demands.now c.args.capacity c.args.depots.now c.args.depot c.nodes.result c.in_ok-nodes.nodes.items c.in_ok-demands.demands.items c.in_ok-weights.weights.items c.in_ok-nodes.ensures c.nodes.ensures.value
    (c.in_ok-demands.ensures ∙ ap (map (node_demand c.args.demands.now)) c.deref-2.ensures.value)
    (c.in_ok-weights.ensures.value ∙ ap (weights_among c.args.weights.now) c.deref.ensures.value)
