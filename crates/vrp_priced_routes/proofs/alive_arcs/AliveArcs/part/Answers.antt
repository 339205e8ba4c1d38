use Rattle.std.proofs.Common.{List, ℕ, sym, subst, ◌∙◌}
use Rattle.vrp_routes.specs.Range.{IsPart}
use Rattle.vrp_priced_routes.specs.Arcs.{ArcsOf, HoldPlans}
use Rattle.vrp_priced_routes.proofs.AllArcs.{part_holds}
use Rattle.vrp_priced_routes.proofs.alive_arcs.AliveArcs.part.Goals as goal

pub of-requires : goal.of-requires
of-requires c =
    let own : ArcsOf = record { problem = c.self.inside.instance.now; range = c.self.inside.range; followers = c.self.inside.followers.items } in
    let items = c.in_ok-followers.ensures.items ∙ c.deref.ensures.value in
    subst (λ (f : List ℕ). HoldPlans (record { problem = c.self.inside.instance.now; range = c.args.range; followers = f })) (sym items)
    (part_holds own c.args.range c.self.invariant (subst (λ (a : ArcsOf). IsPart c.args.range a.range) (sym c.self.view_is) c.requires))
