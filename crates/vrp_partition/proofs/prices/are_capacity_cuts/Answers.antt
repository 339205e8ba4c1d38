use Rattle.std.proofs.Common.{inl, inr, arith, refl, subst}
use Rattle.std.proofs.lemmas.List.{take_all}
use Rattle.std.proofs.lemmas.List.Elements.{All-more}
use Rattle.std.specs.List.{All}
use Rattle.vrp_partition.specs.Prices.{IsCapacityCut, MayAsk}
use Rattle.vrp_partition.specs.declared.prices.Cut.{Cut}
use Rattle.vrp_partition.proofs.prices.are_capacity_cuts.Goals as goal
use Rattle.vrp_partition.proofs.prices.are_capacity_cuts.Goals.{else-not-is_granted-via-then-not-is_granted+else-not-is_needed, else-not-is_granted-via-else-not-is_granted}

pub loop-cut-preserved : goal.loop-cut-preserved
loop-cut-preserved c =
    let cut : Cut = c.cut-item.result in
    let is : Cut → Type 0 = IsCapacityCut c.args.demands.now c.args.capacity c.args.customers c.args.least_routes in
    let asks : MayAsk c.args.demands.now c.args.capacity c.args.customers c.args.least_routes cut = elim c.else-not-is_granted.branch [
      | else-not-is_granted-via-then-not-is_granted+else-not-is_needed w ↦ inl (w.is_needed.ensures.0 w.if-not-is_needed.false)
      | else-not-is_granted-via-else-not-is_granted w ↦ inr (c.is_granted.ensures.0 w.if-not-is_granted.false)
    ] in
    let here : is cut = record { moderate = omega (arith, c.if-cut-gt-MOST_CUT_PRICE.false); asks = asks } in
    All-more is c.args.cuts.now c.loop-cut.cut-index cut c.loop-cut-test.true c.loop-cut.invariant (subst is c.cut-item.is here)

pub returns : goal.returns
returns c = (
  λ yes. subst (All (IsCapacityCut c.args.demands.now c.args.capacity c.args.customers c.args.least_routes)) (take_all c.loop-cut.cut-index c.args.cuts.now c.loop-cut-test.false) c.loop-cut.invariant,
  λ all. refl,
)
