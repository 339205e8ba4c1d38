use Rattle.std.proofs.Common.{◌≡◌, ◌≤◌, ◌+◌, ◌*◌, true, false, refl, subst, ◌∙◌, arith}
use Rattle.vrp_model.specs.Problem.{demand_of}
use Rattle.vrp_model.specs.Route.{load_of}
use Rattle.vrp_bound.specs.Capacity.{IsTrucks}
use Rattle.vrp_bound_prices.specs.CapacityCut.{marked}
use Rattle.vrp_bound_prices.proofs.CustomerSums.{sum_all, sum_more}
use Rattle.vrp_bound_prices.proofs.MarkedCustomers.{is_marked, load_marked, marked_carried, marked_demand}
use Rattle.vrp_bound_prices.proofs.cut.trucks_for.Goals as goal
use Rattle.vrp_bound_prices.proofs.cut.trucks_for.Goals.{then-inside-from, else-inside-from}

pub loop-index-preserved : goal.loop-index-preserved
loop-index-preserved c =
    let p = c.args.instance.now in
    let marks = c.args.inside.now in
    let k = c.loop-index.index + 1 in
    let more = sum_more (marked_demand p marks) p c.loop-index.index (omega (arith, c.customers-index-end.ensures.value, c.loop-index-test.true, c.loop-index.auto.index-end)) in
    elim c.if-inside-from.branch [
      | then-inside-from w ↦
          let picked : is_marked marks k ≡ true = rw c.from.ensures at w.if-inside-from.true in
          let here : marked_demand p marks k ≡ demand_of p k = rw picked refl in
          record {
            summed = omega (arith, more, here, w.load-is, w.demand-demand.ensures.value, c.loop-index.invariant.summed);
            small = omega (arith, w.load-is, w.demand-demand.ensures.fits, c.customers-index-end.ensures.problem.small_capacity, c.loop-index.invariant.small);
          }
      | else-inside-from w ↦
          let left : is_marked marks k ≡ false = rw c.from.ensures at w.if-inside-from.false in
          let here : marked_demand p marks k ≡ 0 = rw left refl in
          record {
            summed = omega (arith, more, here, w.load-is, c.loop-index.invariant.summed);
            small = omega (arith, w.load-is, c.loop-index.invariant.small);
          }
    ]

pub trucks_needed-requires : goal.trucks_needed-requires
trucks_needed-requires c = λ some.
    let p = c.args.instance.now in
    let marks = c.args.inside.now in
    let summed = c.loop-index.invariant.summed ∙ sum_all (marked_demand p marks) p c.loop-index.index (omega (arith, c.customers-index-end.ensures.value, c.loop-index-test.false, c.loop-index.auto.index-end)) in
    let load : c.loop-index.load ≡ load_of p (marked marks) = summed ∙ load_marked p marks c.requires.one_each in
    let carried : c.loop-index.load ≤ 1199 * c.capacity.result = rw (c.capacity.ensures.value, load) (marked_carried p marks c.customers-index-end.ensures.problem c.requires.one_each) in
    omega (arith, some, carried)

pub returns-clause-carry : goal.returns-clause-carry
returns-clause-carry c =
    let p = c.args.instance.now in
    let marks = c.args.inside.now in
    let summed = c.loop-index.invariant.summed ∙ sum_all (marked_demand p marks) p c.loop-index.index (omega (arith, c.customers-index-end.ensures.value, c.loop-index-test.false, c.loop-index.auto.index-end)) in
    let load : c.loop-index.load ≡ load_of p (marked marks) = summed ∙ load_marked p marks c.requires.one_each in
    subst (λ n. IsTrucks p.capacity n c.trucks_needed.result) load (subst (λ n. IsTrucks n c.loop-index.load c.trucks_needed.result) c.capacity.ensures.value c.trucks_needed.ensures)

pub returns-clause-few : goal.returns-clause-few
returns-clause-few c =
    let p = c.args.instance.now in
    let marks = c.args.inside.now in
    let summed = c.loop-index.invariant.summed ∙ sum_all (marked_demand p marks) p c.loop-index.index (omega (arith, c.customers-index-end.ensures.value, c.loop-index-test.false, c.loop-index.auto.index-end)) in
    let load : c.loop-index.load ≡ load_of p (marked marks) = summed ∙ load_marked p marks c.requires.one_each in
    let carried : c.loop-index.load ≤ 1199 * c.capacity.result = rw (c.capacity.ensures.value, load) (marked_carried p marks c.customers-index-end.ensures.problem c.requires.one_each) in
    omega (arith, c.trucks_needed.ensures.least 1199 carried)
