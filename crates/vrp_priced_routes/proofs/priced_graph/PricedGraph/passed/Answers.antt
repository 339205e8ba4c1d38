use Rattle.std.proofs.Common.{rules, ◌≡◌, ◌∙◌, List, ℕ, ℤ, ap, sym, subst, to_z, of_z, w64}
use Rattle.std.proofs.lemmas.Int.{ints}
use Rattle.vrp_labels.specs.Fixing.{with_followers}
use Rattle.vrp_labels.specs.Graph.{GraphOf}
use Rattle.vrp_priced_routes.specs.Arcs.{HoldPlans}
use Rattle.vrp_priced_routes.specs.Priced.{ArePricedLabels, IsPriced, PricedOf}
use Rattle.vrp_priced_routes.proofs.PassSteps.{labels_kept, plans_held, priced_kept}
use Rattle.vrp_priced_routes.proofs.priced_graph.PricedGraph.passed.Goals as goal

pub of-arcs-requires : goal.of-arcs-requires
of-arcs-requires c =
    let items = c.in_ok-from_slice.ensures.items ∙ c.deref.ensures.value in
    subst (λ (s : PricedOf). HoldPlans (record { problem = s.problem; range = s.range; followers = c.in_ok-from_slice.field-0.items })) (sym c.self.view_is)
    (subst (λ (f : List ℕ). HoldPlans (record { problem = c.args.self.problem; range = c.args.self.range; followers = f })) (sym items)
    (plans_held c.args.self c.args.gap c.args.followers.items c.requires.labels.priced c.requires.labels.gap c.requires.keeps))

pub invariant_of-priced : goal.invariant_of-priced
invariant_of-priced c =
    subst (λ (s : PricedOf). IsPriced (record { problem = s.problem; range = s.range; duals = s.duals; graph = c.keep_arcs.result })) (sym c.self.view_is)
    (subst (λ (g : GraphOf). IsPriced (record { problem = c.args.self.problem; range = c.args.self.range; duals = c.args.self.duals; graph = g }))
    (sym (c.keep_arcs.ensures ∙ ap (λ (s : PricedOf). with_followers s.graph c.args.followers.items) c.self.view_is))
    (priced_kept c.args.self c.args.gap c.args.followers.items c.requires.labels.priced c.requires.labels.gap c.requires.keeps))

pub new-labels-requires : goal.new-labels-requires
new-labels-requires c =
    let gap : to_z w64 (of_z w64 c.args.gap) ≡ c.args.gap = search (rules, ints) in
    subst (λ (z : ℤ). ArePricedLabels (record {
      priced = record { problem = c.self.inside.instance.now; range = c.self.inside.range; duals = c.self.inside.duals.now; graph = c.keep_arcs.result };
      gap = z;
      labels = c.args.labels;
      bound = c.args.bound;
    })) (sym gap)
    (subst (λ (s : PricedOf). ArePricedLabels (record {
      priced = record { problem = s.problem; range = s.range; duals = s.duals; graph = c.keep_arcs.result };
      gap = c.args.gap;
      labels = c.args.labels;
      bound = c.args.bound;
    })) (sym c.self.view_is)
    (subst (λ (g : GraphOf). ArePricedLabels (record {
      priced = record { problem = c.args.self.problem; range = c.args.self.range; duals = c.args.self.duals; graph = g };
      gap = c.args.gap;
      labels = c.args.labels;
      bound = c.args.bound;
    })) (sym (c.keep_arcs.ensures ∙ ap (λ (s : PricedOf). with_followers s.graph c.args.followers.items) c.self.view_is))
    (labels_kept (record { priced = c.args.self; gap = c.args.gap; labels = c.args.labels; bound = c.args.bound }) c.args.followers.items c.requires.labels c.requires.keeps c.requires.alive)))
