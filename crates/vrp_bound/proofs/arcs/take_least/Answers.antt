use Rattle.std.proofs.Common.{◌∷◌, subst, sym, arith, List}
use Rattle.std.specs.List.Sorted.{IsPermutation}
use Rattle.std.proofs.lemmas.List.Sorted.{IsPermutation-swap_remove}
use Rattle.vrp_bound.specs.declared.arc.Arc.{Arc}
use Rattle.vrp_bound.proofs.arcs.take_least.Goals as goal

pub returns-clause-taken : goal.returns-clause-taken
returns-clause-taken c =
    let arcs = c.args.arcs.now.items in
    let taken = c.swap_remove.result in
    subst (λ (s : List Arc). IsPermutation arcs (taken ∷ s)) (sym c.swap_remove.ensures.items)
    (IsPermutation-swap_remove arcs c.loop-index.least taken (omega (arith, c.loop-index.invariant.within)) c.swap_remove.ensures.value)
