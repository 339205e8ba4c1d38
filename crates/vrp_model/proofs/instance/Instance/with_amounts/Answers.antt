use Rattle.std.proofs.Common.{◌≡◌, ◌*◌, ◌<◌, ℕ, List, length, sym, subst, ◌∙◌, arith}
use Rattle.std.specs.Prelude.{◌↔◌, IsTrue, slice_index, vec_len}
use Rattle.std.proofs.lemmas.Grind.{common_steps}
use Rattle.vrp_model.specs.Inner.LeastArcs.{IsLeastArc}
use Rattle.vrp_model.specs.Inner.Symmetry.{IsSymmetricSquare}
use Rattle.vrp_model.specs.Problem.{Problem}
use Rattle.vrp_model.proofs.LeastArcLemmas.{least_arcs_are}
use Rattle.vrp_model.proofs.NewAmounts.{problem_with_amounts, same_with_amounts}
use Rattle.vrp_model.proofs.instance.Instance.with_amounts.Goals as goal

pub invariant_of-result : goal.invariant_of-result
invariant_of-result c =
    let places = c.in_ok-nodes.nodes.items in
    let weights = c.args.weights.items in
    let demands = c.args.demands.items in
    let inside : Problem = record { nodes = c.self.inside.nodes.items; demands = c.self.inside.demands.items; weights = c.self.inside.weights.items; capacity = c.self.inside.capacity; trucks = c.self.inside.trucks } in
    let same : places ≡ c.self.inside.nodes.items = grind (arith, common_steps) in
    let made : Problem = record { nodes = places; demands = demands; weights = weights; capacity = c.args.capacity; trucks = c.self.inside.trucks } in
    let view : inside ≡ c.args.self.now = c.self.view_is in
    let square : length weights ≡ length c.self.inside.nodes.items * length c.self.inside.nodes.items = grind (arith, common_steps) ∙ subst (λ (p : Problem). vec_len c.args.weights ≡ length p.nodes * length p.nodes) (sym view) c.requires.square in
    let one_demand : length demands ≡ length c.self.inside.nodes.items = grind (arith, common_steps) ∙ subst (λ (p : Problem). vec_len c.args.demands ≡ length p.nodes) (sym view) c.requires.one_demand_each in
    let problem = problem_with_amounts inside places weights demands c.args.capacity same c.self.invariant.problem square c.requires.small_weights one_demand c.requires.empty_depot c.requires.fitting_demands c.requires.small_capacity in
    let least = c.in_ok-least_in.least_in.items in
    let count : c.len.result ≡ length places = grind (arith, common_steps) in
    let one_each : length least ≡ c.len.result = grind (arith, common_steps) in
    let each = subst (λ (ws : List ℕ). (to : ℕ) → to < c.len.result → IsLeastArc ws c.len.result to (slice_index least to)) c.deref-2.ensures.value c.in_ok-least_in.ensures.each in
    let told = subst (λ (ws : List ℕ). IsTrue c.is_symmetric-symmetric.result ↔ IsSymmetricSquare ws (length places)) c.deref-3.ensures.value
    (subst (λ n. IsTrue c.is_symmetric-symmetric.result ↔ IsSymmetricSquare c.deref-3.result.now n) (omega arith) c.is_symmetric-symmetric.ensures) in
    record {
      problem = problem;
      least = least_arcs_are made least c.len.result count one_each (omega (arith, count, problem.some_places)) each;
      told = told;
    }

pub returns : goal.returns
returns c = same_with_amounts (record { nodes = c.self.inside.nodes.items; demands = c.self.inside.demands.items; weights = c.self.inside.weights.items; capacity = c.self.inside.capacity; trucks = c.self.inside.trucks }) c.args.self.now c.in_ok-nodes.nodes.items c.args.weights.items c.args.demands.items c.args.capacity c.self.view_is (grind (arith, common_steps))
