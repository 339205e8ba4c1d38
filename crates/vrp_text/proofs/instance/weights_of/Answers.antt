use Rattle.std.proofs.Common.{◌≡◌, ◌≤◌, ℕ, ℤ, List, length, map, sym, ap, ◌∙◌, subst, arith}
use Rattle.std.proofs.lemmas.Grind.{pieces, common_steps}
use Rattle.std.proofs.lemmas.Int.{ints}
use Rattle.std.specs.Prelude.{slice_index, unsigned_abs}
use Rattle.vrp_model.specs.Grid.{HasDistances}
use Rattle.vrp_text.specs.Complete.{points_of}
use Rattle.vrp_text.specs.Meaning.{HasWeights}
use Rattle.vrp_text.specs.Inner.InMemory.{source_in}
use Rattle.vrp_text.specs.Inner.StatedSoFar.{IsSourceInRange}
use Rattle.vrp_text.specs.declared.complete.Source.{Source}
use Rattle.vrp_text.proofs.InstanceLemmas.{small_weights, length-points}
use Rattle.vrp_text.proofs.instance.weights_of.Goals as goal

pub points-requires-clause-few : goal.points-requires-clause-few
points-requires-clause-few c =
    let same : c.deref-in-Points.result.now ≡ points_of c.args.nodes c.in-Points.numbers.items = c.deref-in-Points.ensures.value ∙ c.in_ok-points-in-Points.ensures.value ∙ ap (points_of c.args.nodes) c.deref.ensures.value in
    let count : length c.deref-in-Points.result.now ≡ c.args.nodes = ap length same ∙ length-points c.args.nodes c.in-Points.numbers.items in
    omega (arith, count, c.requires.few)

pub matrix-requires-clause-small : goal.matrix-requires-clause-small
matrix-requires-clause-small c =
    let same : c.deref-in-Matrix-2.result.now ≡ map unsigned_abs c.in-Matrix.numbers.items = c.deref-in-Matrix-2.ensures.value ∙ c.in_ok-entries-in-Matrix.ensures.value ∙ ap (map unsigned_abs) c.deref-in-Matrix.ensures.value in
    let within = subst (λ (s : Source). IsSourceInRange (source_in s)) c.in-Matrix.is c.requires.within in
    λ k. subst (λ (xs : List ℕ). slice_index xs k ≤ 1000000000) (sym same) (small_weights c.in-Matrix.numbers.items within k)

pub returns-in_ok-points-in-Points-2-clause-nodes : goal.returns-in_ok-points-in-Points-2-clause-nodes
returns-in_ok-points-in-Points-2-clause-nodes c =
    let same : c.deref-in-Points.result.now ≡ points_of c.args.nodes c.in-Points.numbers.items = c.deref-in-Points.ensures.value ∙ c.in_ok-points-in-Points.ensures.value ∙ ap (points_of c.args.nodes) c.deref.ensures.value in
    c.in_ok-points-in-Points-2.ensures.count ∙ ap length same ∙ length-points c.args.nodes c.in-Points.numbers.items

pub returns-in_ok-points-in-Points-2-clause-weights : goal.returns-in_ok-points-in-Points-2-clause-weights
returns-in_ok-points-in-Points-2-clause-weights c =
    let same : c.deref-in-Points.result.now ≡ points_of c.args.nodes c.in-Points.numbers.items = c.deref-in-Points.ensures.value ∙ c.in_ok-points-in-Points.ensures.value ∙ ap (points_of c.args.nodes) c.deref.ensures.value in
    let has = subst (λ (points : List (ℤ × ℤ)). HasDistances c.in-Points.metric points c.in_ok-points-in-Points-2.field-0) same c.in_ok-points-in-Points-2.ensures in
    subst (λ (s : Source). HasWeights c.args.nodes (source_in s) c.in_ok-points-in-Points-2.field-0) (sym c.in-Points.is) has

pub points-requires-clause-some : goal.points-requires-clause-some
points-requires-clause-some c = search (pieces, arith) depth 5 fits 300

pub matrix-requires-clause-count : goal.matrix-requires-clause-count
matrix-requires-clause-count c = grind (ints, arith, common_steps)
