use Rattle.std.proofs.Common.{rules, ◌≡◌, ◌∙◌, ℤ, ap, sym, subst, to_z, of_z, w64}
use Rattle.std.proofs.lemmas.Int.{ints}
use Rattle.vrp_labels.specs.Graph.{GraphOf}
use Rattle.vrp_labels.specs.Route.{IsCheap}
use Rattle.vrp_priced_routes.proofs.label_test.LabelTest.new.Goals as goal

pub invariant_of-result : goal.invariant_of-result
invariant_of-result c =
    let gap : to_z w64 (of_z w64 c.args.gap) ≡ c.args.gap = search (rules, ints) in
    record {
      graph_is = sym c.requires.graph;
      gap_is = gap ∙ sym c.requires.gap;
      problem = c.customers-customers.ensures.problem;
      places = ap (λ (g : GraphOf). g.folded.places) c.requires.graph ∙ c.requires.places;
      cheap = λ stops useful.
          subst (λ (g : GraphOf). IsCheap g c.args.completions.now.gap stops) (sym c.requires.graph)
          (subst (λ (z : ℤ). IsCheap c.args.graph.now z stops) (sym c.requires.gap) (c.requires.cheap stops useful));
    }
