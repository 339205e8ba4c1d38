use Rattle.std.proofs.Common.{subst, sym, arith}
use Rattle.vrp_model.specs.Problem.{IsProblem, demand_of}
use Rattle.vrp_model.proofs.UnservedCustomers.{sum_of_unserved_fits}
use Rattle.vrp_model.proofs.PrefixPlaces.{last_is_place}
use Rattle.vrp_search_tree.specs.Partial.{PartialPlan}
use Rattle.vrp_search_tree.specs.Low.{AreCovered, IsLow}
use Rattle.vrp_search_tree.specs.Inner.Tallied.{IsLowOf}
use Rattle.vrp_search_tree.proofs.LowBounds.{low_is, rest_within}
use Rattle.vrp_search_tree.proofs.PrefixLength.{prefixes_are_short}
use Rattle.vrp_search_tree.proofs.PartialViews.{at_inside}
use Rattle.vrp_search_tree.proofs.partial.Partial.low.Goals as goal

pub low-requires-clause-place : goal.low-requires-clause-place
low-requires-clause-place c =
    let at = at_inside c.self.inside.instance.now c.self.inside.word.items c.at.result c.args.self.now c.self.view_is c.at.ensures in
    omega (arith, at, last_is_place c.self.inside.instance.now c.self.inside.word.items c.self.invariant.0.problem c.self.invariant.0.prefix)

pub low-requires-clause-cost : goal.low-requires-clause-cost
low-requires-clause-cost c =
    omega (arith, c.self.invariant.0.now.small, prefixes_are_short c.self.inside.instance.now c.self.inside.word.items c.self.invariant.0.problem c.self.invariant.0.prefix, c.self.invariant.0.problem.few_places)

pub low-requires-clause-rest : goal.low-requires-clause-rest
low-requires-clause-rest c =
    let covered = subst (λ (v : PartialPlan). AreCovered v.problem c.args.tables.now.among v.word) (sym c.self.view_is) c.requires.covered in
    omega (arith, c.self.invariant.0.now.rest, rest_within c.self.inside.instance.now c.args.tables.now.among c.self.inside.word.items covered)

pub low-requires-clause-all : goal.low-requires-clause-all
low-requires-clause-all c = omega (arith, c.self.invariant.0.now.rest, sum_of_unserved_fits (demand_of c.self.inside.instance.now) c.self.inside.instance.now c.self.inside.word.items)

pub returns-clause-low : goal.returns-clause-low
returns-clause-low c =
    let at = at_inside c.self.inside.instance.now c.self.inside.word.items c.at.result c.args.self.now c.self.view_is c.at.ensures in
    let low = subst (λ at. IsLowOf c.self.inside.instance.now c.args.tables.now.among at c.self.inside.tally c.low.result) at c.low.ensures in
    subst (λ (v : PartialPlan). IsLow v.problem c.args.tables.now.among v.word c.low.result) c.self.view_is
    (low_is c.self.inside.instance.now c.args.tables.now.among c.self.inside.word.items c.self.inside.tally c.low.result c.self.invariant.0.now low)

pub returns-clause-problem : goal.returns-clause-problem
returns-clause-problem c = subst (λ (v : PartialPlan). IsProblem v.problem) c.self.view_is c.self.invariant.0.problem
