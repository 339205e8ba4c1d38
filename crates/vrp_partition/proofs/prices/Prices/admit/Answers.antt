use Rattle.std.proofs.Common.{◌≤◌, inl, inr, All, subst, count_ones, IsTrue, true, refl}
use Rattle.std.proofs.lemmas.List.Elements.{All-weaker}
use Rattle.vrp_partition.specs.Prices.{IsSubsetRow, IsCapacityCut, IsVisited}
use Rattle.vrp_partition.proofs.NeededVisits.{granted_visits, needed_visits}
use Rattle.vrp_partition.proofs.prices.Prices.admit.Goals as goal

pub returns-then-are_capacity_cuts-clause-valid : goal.returns-then-are_capacity_cuts-clause-valid
returns-then-are_capacity_cuts-clause-valid c = λ pool fit.
    let subset_rows : All IsSubsetRow c.args.offer.subset_rows.items = subst (All IsSubsetRow) c.as_slice-then-are_moderate.ensures.value (c.if-are_subset_rows.ensures.0 yes) in
    let visits : All (IsCapacityCut c.args.demands.now c.args.capacity c.args.customers c.args.least_routes) c.args.offer.capacity_cuts.items = subst (All (IsCapacityCut c.args.demands.now c.args.capacity c.args.customers c.args.least_routes)) c.as_slice-then-are_subset_rows.ensures.value (c.if-are_capacity_cuts.ensures.0 yes) in
    record {
      three = All-weaker IsSubsetRow (λ cut. count_ones cut.set ≤ 3) (λ cut is. is.three) c.args.offer.subset_rows.items subset_rows;
      visited = All-weaker (IsCapacityCut c.args.demands.now c.args.capacity c.args.customers c.args.least_routes) (IsVisited pool c.args.customers c.args.least_routes) (λ cut is. elim is.asks [
        | inl needed ↦ needed_visits c.args.demands.now c.args.capacity c.args.customers c.args.least_routes pool cut fit needed
        | inr granted ↦ granted_visits c.args.customers c.args.least_routes pool cut granted
      ]) c.args.offer.capacity_cuts.items visits;
    }
  where
    yes : IsTrue true
    yes = refl
