use Rattle.std.proofs.Common.{◌≡◌, ◌∙◌, sym, subst, arith}
use Rattle.std.specs.List.{All, Contains}
use Rattle.std.specs.List.Sorted.{IsStrictlyIncreasing}
use Rattle.std.proofs.lemmas.List.Elements.{All-contains_itself}
use Rattle.vrp_model.specs.Problem.{customers}
use Rattle.vrp_model.specs.Route.{load_of}
use Rattle.vrp_model.proofs.DistinctLists.{customers_rise}
use Rattle.vrp_model.specs.Near.{near_in}
use Rattle.vrp_bound.specs.Inner.Scope.{IsScope}
use Rattle.vrp_bound.specs.NgWalks.{IsLeastNgRelaxed, NoneNgRelaxed}
use Rattle.vrp_bound.proofs.CellAnswers.{least_same_list}
use Rattle.vrp_bound.proofs.FirstTour.{bound_of_cell, none_of_cell}
use Rattle.vrp_bound.proofs.TableSizes.{light_where_made}
use Rattle.vrp_bound.proofs.WholeUnits.{same_scope}
use Rattle.vrp_bound.proofs.ng_tours.least_ng_tours.Goals as goal

pub new-scope-requires-clause-rising : goal.new-scope-requires-clause-rising
new-scope-requires-clause-rising c = subst IsStrictlyIncreasing (sym (c.deref.ensures.value ∙ c.in_ok-customers.ensures)) (customers_rise c.args.instance.now)

pub new-scope-requires-clause-customers : goal.new-scope-requires-clause-customers
new-scope-requires-clause-customers c = subst (All (Contains (customers c.args.instance.now))) (sym (c.deref.ensures.value ∙ c.in_ok-customers.ensures)) (All-contains_itself (customers c.args.instance.now))

pub fill-requires-clause-scope : goal.fill-requires-clause-scope
fill-requires-clause-scope c =
    let scope = c.new-scope.result in
    light_where_made c.args.most_steps scope.instance.now scope.customers.now scope.problem scope.known (c.are_made.ensures.0 c.if-not-are_made.false)

pub returns-then-least-lt-MARK-clause-least : goal.returns-then-least-lt-MARK-clause-least
returns-then-least-lt-MARK-clause-least c =
    let p = c.args.instance.now in
    let scope = c.new-scope.result in
    let near = near_in c.args.ng_sets.now in
    let listed : scope.customers.now ≡ customers p = c.new-scope.ensures.customers ∙ c.deref.ensures.value ∙ c.in_ok-customers.ensures in
    let rest : c.demand_of_all.result ≡ load_of p (customers p) = same_scope (λ b a. c.demand_of_all.result ≡ load_of b a) p scope.instance.now (customers p) scope.customers.now c.new-scope.ensures.instance listed c.demand_of_all.ensures.value in
    let here = least_same_list p scope.instance.now near (customers p) scope.customers.now 0 0 c.demand_of_all.result c.least-least.result c.new-scope.ensures.instance listed c.least-least.ensures in
    subst (λ n. IsLeastNgRelaxed p near (customers p) 0 0 n c.least-least.result) rest (bound_of_cell p near (customers p) 0 0 c.demand_of_all.result c.least-least.result here c.if-least-lt-MARK.true)

pub returns-clause-least : goal.returns-clause-least
returns-clause-least c =
    let p = c.args.instance.now in
    let scope = c.new-scope.result in
    let near = near_in c.args.ng_sets.now in
    let listed : scope.customers.now ≡ customers p = c.new-scope.ensures.customers ∙ c.deref.ensures.value ∙ c.in_ok-customers.ensures in
    let rest : c.demand_of_all.result ≡ load_of p (customers p) = same_scope (λ b a. c.demand_of_all.result ≡ load_of b a) p scope.instance.now (customers p) scope.customers.now c.new-scope.ensures.instance listed c.demand_of_all.ensures.value in
    let within : IsScope p (customers p) = same_scope IsScope p scope.instance.now (customers p) scope.customers.now c.new-scope.ensures.instance listed
    (light_where_made c.args.most_steps scope.instance.now scope.customers.now scope.problem scope.known (c.are_made.ensures.0 c.if-not-are_made.false)) in
    let here = least_same_list p scope.instance.now near (customers p) scope.customers.now 0 0 c.demand_of_all.result c.least-least.result c.new-scope.ensures.instance listed c.least-least.ensures in
    λ _. subst (λ n. NoneNgRelaxed p near (customers p) 0 0 n) rest (none_of_cell p near (customers p) 0 0 c.demand_of_all.result c.least-least.result within (omega (arith, rest)) here c.if-least-lt-MARK.false)
