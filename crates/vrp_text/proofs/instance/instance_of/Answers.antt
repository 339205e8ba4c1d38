use Rattle.std.proofs.Common.{◌≡◌, map, length, sym, ap, ◌∙◌, arith}
use Rattle.std.proofs.lemmas.Grind.{common_steps}
use Rattle.std.proofs.lemmas.Int.{ints}
use Rattle.std.specs.Prelude.{unsigned_abs}
use Rattle.std.proofs.lemmas.Result.{err_from_is_err_and}
use Rattle.vrp_text.specs.Complete.{demands_of, listed_depots}
use Rattle.vrp_text.specs.Inner.InMemory.{complete_in}
use Rattle.vrp_text.specs.Inner.NodeFaults.{demands_fault, depots_fault}
use Rattle.vrp_text.proofs.InstanceLemmas.{length-demands, nodes_are_sound, refused_demands, refused_depots, refused_source, states_made, states_refusal}
use Rattle.vrp_text.proofs.instance.instance_of.Goals as goal

pub new-requires-clause-one_demand_each : goal.new-requires-clause-one_demand_each
new-requires-clause-one_demand_each c =
    let file = c.args.complete.now in
    ap length (c.deref-3.ensures.value ∙ c.in_ok-demands.ensures.value ∙ ap (demands_of file.nodes) c.deref.ensures.value) ∙ length-demands file.nodes file.demands.items ∙ sym c.in_ok-weights.ensures.nodes

pub returns-in_err-new-clause-refused : goal.returns-in_err-new-clause-refused
returns-in_err-new-clause-refused c =
    let file = c.args.complete.now in
    let exit = err_from_is_err_and c.from_residual-in_err-new.result c.from_residual-in_err-new.ensures.1 in
    let demands : c.deref-3.result.now ≡ demands_of file.nodes file.demands.items = c.deref-3.ensures.value ∙ c.in_ok-demands.ensures.value ∙ ap (demands_of file.nodes) c.deref.ensures.value in
    let listed : c.listed_depots.result.now ≡ listed_depots file.depots.items = c.listed_depots.ensures ∙ ap listed_depots c.deref-2.ensures.value in
    let depots : c.deref-4.result.now ≡ map unsigned_abs (listed_depots file.depots.items) = c.deref-4.ensures.value ∙ c.in_ok-depots.ensures.value ∙ ap (map unsigned_abs) listed in
    let sound = nodes_are_sound (complete_in file) c.in_ok-weights.ensures.sound (rw c.deref.ensures.value at c.in_ok-demands.ensures.sound) (rw listed at c.in_ok-depots.ensures.sound) in
    rw (exit.1, exit.2) (λ differs. states_refusal (complete_in file) c.args.chosen c.deref-3.result.now c.deref-4.result.now c.in_ok-weights.weights c.in_err-new.field-0.0 demands depots sound c.in_err-new.ensures.refused differs)

pub returns-clause-meant : goal.returns-clause-meant
returns-clause-meant c =
    let file = c.args.complete.now in
    let demands : c.deref-3.result.now ≡ demands_of file.nodes file.demands.items = c.deref-3.ensures.value ∙ c.in_ok-demands.ensures.value ∙ ap (demands_of file.nodes) c.deref.ensures.value in
    let listed : c.listed_depots.result.now ≡ listed_depots file.depots.items = c.listed_depots.ensures ∙ ap listed_depots c.deref-2.ensures.value in
    let depots : c.deref-4.result.now ≡ map unsigned_abs (listed_depots file.depots.items) = c.deref-4.ensures.value ∙ c.in_ok-depots.ensures.value ∙ ap (map unsigned_abs) listed in
    states_made (complete_in file) c.args.chosen c.deref-3.result.now c.deref-4.result.now c.in_ok-weights.weights c.in_ok-new.field-0 demands depots c.in_ok-weights.ensures.weights c.in_ok-new.ensures.acceptable c.in_ok-new.ensures.value

pub returns-clause-sound : goal.returns-clause-sound
returns-clause-sound c =
    let file = c.args.complete.now in
    let listed : c.listed_depots.result.now ≡ listed_depots file.depots.items = c.listed_depots.ensures ∙ ap listed_depots c.deref-2.ensures.value in
    nodes_are_sound (complete_in file) c.in_ok-weights.ensures.sound (rw c.deref.ensures.value at c.in_ok-demands.ensures.sound) (rw listed at c.in_ok-depots.ensures.sound)

pub returns-in_err-weights-clause-refused : goal.returns-in_err-weights-clause-refused
returns-in_err-weights-clause-refused c =
    let exit = err_from_is_err_and c.from_residual.result c.from_residual.ensures.1 in
    rw (exit.1, exit.2) (λ differs. refused_source (complete_in c.args.complete.now) c.args.chosen _ (c.in_err-weights.ensures.refused differs))

pub returns-in_err-demands-clause-refused : goal.returns-in_err-demands-clause-refused
returns-in_err-demands-clause-refused c =
    let exit = err_from_is_err_and c.from_residual-in_err-demands.result c.from_residual-in_err-demands.ensures.1 in
    rw (exit.1, exit.2) (λ differs. refused_demands (complete_in c.args.complete.now) c.args.chosen _ c.in_ok-weights.ensures.sound (ap (λ numbers. demands_fault c.args.complete.now.nodes numbers) (sym c.deref.ensures.value) ∙ c.in_err-demands.ensures.refused differs))

pub returns-in_err-depots-clause-refused : goal.returns-in_err-depots-clause-refused
returns-in_err-depots-clause-refused c =
    let file = c.args.complete.now in
    let exit = err_from_is_err_and c.from_residual-in_err-depots.result c.from_residual-in_err-depots.ensures.1 in
    let listed : c.listed_depots.result.now ≡ listed_depots file.depots.items = c.listed_depots.ensures ∙ ap listed_depots c.deref-2.ensures.value in
    rw (exit.1, exit.2) (λ differs. refused_depots (complete_in file) c.args.chosen _ c.in_ok-weights.ensures.sound (rw c.deref.ensures.value at c.in_ok-demands.ensures.sound) (ap (λ numbers. depots_fault file.nodes numbers) (sym listed) ∙ c.in_err-depots.ensures.refused differs))

pub new-requires-clause-depots_from_one : goal.new-requires-clause-depots_from_one
new-requires-clause-depots_from_one c = rw c.deref-4.ensures.value c.in_ok-depots.ensures.from_one

pub new-requires-clause-depots_within : goal.new-requires-clause-depots_within
new-requires-clause-depots_within c =
    rw (c.deref-4.ensures.value, c.in_ok-weights.ensures.nodes) c.in_ok-depots.ensures.within

pub new-requires-clause-some_depot : goal.new-requires-clause-some_depot
new-requires-clause-some_depot c = grind (ints, arith, common_steps)
