use Rattle.std.proofs.Common.{◌≡◌, ◌≤◌, ◌++◌, ◌∷◌, [], ap, subst, sym, arith}
use Rattle.vrp_model.specs.Problem.{Problem, customers, demand_of}
use Rattle.vrp_model.specs.Route.{load_of}
use Rattle.vrp_model.proofs.UnservedCustomers.{sum_of_unserved_fits}
use Rattle.vrp_model.proofs.LastRoute.{last_symbol_with}
use Rattle.vrp_search_tree.specs.Partial.{PartialPlan}
use Rattle.vrp_model.proofs.PrefixPlaces.{symbol_is_place}
use Rattle.vrp_search_tree.specs.Inner.Tallied.{IsLowOf}
use Rattle.vrp_search_tree.specs.Tally.{IsTally}
use Rattle.vrp_search_tree.proofs.PrefixLength.{prefixes_are_short}
use Rattle.vrp_search_tree.proofs.PartialViews.{child_inside}
use Rattle.vrp_search_tree.proofs.LowBounds.{covered_more, low_is, rest_within}
use Rattle.vrp_search_tree.proofs.partial.Partial.child_low.Goals as goal

pub low-requires-clause-place : goal.low-requires-clause-place
low-requires-clause-place c =
    let after = child_inside c.self.inside.instance.now c.self.inside.word.items c.args.symbol c.args.self.now c.self.view_is c.requires.child in
    symbol_is_place c.self.inside.instance.now c.self.inside.word.items c.args.symbol c.self.invariant.0.problem after

pub low-requires-clause-cost : goal.low-requires-clause-cost
low-requires-clause-cost c =
    let p = c.self.inside.instance.now in
    let word = c.self.inside.word.items ++ c.args.symbol ∷ [] in
    let after = child_inside p c.self.inside.word.items c.args.symbol c.args.self.now c.self.view_is c.requires.child in
    let tally = subst (λ (v : PartialPlan). IsTally v.problem (v.word ++ c.args.symbol ∷ []) c.args.tally) (sym c.self.view_is) c.requires.tally in
    omega (arith, tally.small, prefixes_are_short p word c.self.invariant.0.problem after, c.self.invariant.0.problem.few_places)

pub low-requires-clause-rest : goal.low-requires-clause-rest
low-requires-clause-rest c =
    let p = c.args.self.now.problem in
    let among = c.args.tables.now.among in
    let word = c.args.self.now.word in
    let problem : c.self.inside.instance.now ≡ p = ap (λ (v : PartialPlan). v.problem) c.self.view_is in
    subst (λ (q : Problem). c.args.tally.rest ≤ load_of q among) (sym problem)
    (omega (arith, c.requires.tally.rest, rest_within p among (word ++ c.args.symbol ∷ []) (covered_more p among word (c.args.symbol ∷ []) c.requires.covered)))

pub low-requires-clause-all : goal.low-requires-clause-all
low-requires-clause-all c =
    let p = c.args.self.now.problem in
    let problem : c.self.inside.instance.now ≡ p = ap (λ (v : PartialPlan). v.problem) c.self.view_is in
    subst (λ (q : Problem). c.args.tally.rest ≤ load_of q (customers q)) (sym problem)
    (omega (arith, c.requires.tally.rest, sum_of_unserved_fits (demand_of p) p (c.args.self.now.word ++ c.args.symbol ∷ [])))

pub returns : goal.returns
returns c =
    let p = c.args.self.now.problem in
    let among = c.args.tables.now.among in
    let word = c.args.self.now.word ++ c.args.symbol ∷ [] in
    let problem : c.self.inside.instance.now ≡ p = ap (λ (v : PartialPlan). v.problem) c.self.view_is in
    let low = subst (λ (q : Problem). IsLowOf q among c.args.symbol c.args.tally c.low.result) problem c.low.ensures in
    low_is p among word c.args.tally c.low.result c.requires.tally (subst (λ at. IsLowOf p among at c.args.tally c.low.result) (sym (last_symbol_with c.args.self.now.word c.args.symbol)) low)
